-- Lines of numbers, by the texts that are written one after the other: those of tiles, of a frame, of copies and of holding files.
use Rattle.std.proofs.Common.{◌≡◌, ℕ, ◌++◌, Bool, List, ◌∙◌, append_assoc}
use Rattle.std.specs.Prelude.{codes}
use Rattle.std.specs.Fmt.{decimal}
use Rattle.ffv1_commands.specs.PictureText.{stuck_line}
use Rattle.ffv1_commands.specs.AnyPictureText.{unclean_tile_line}
use Rattle.ffv1_commands.specs.FrameText.{decoded_line}
use Rattle.ffv1_commands.specs.TakeText.{order_word, copy_line}
use Rattle.ffv1_commands.specs.JoinText.{file_line}
use Rattle.ffv1_commands.specs.RestoreText.{restored_line}

-- nine texts grouped from the right, as they are written one after the other
append-nine : (a b c d e f g h i : List ℕ) → a ++ b ++ c ++ d ++ e ++ f ++ g ++ h ++ i ≡ a ++ (b ++ (c ++ (d ++ (e ++ (f ++ (g ++ (h ++ i)))))))
append-nine a b c d e f g h i =
    append_assoc (a ++ b ++ c ++ d ++ e ++ f ++ g) h i ∙ append_assoc (a ++ b ++ c ++ d ++ e ++ f) g (h ++ i)
    ∙ append_assoc (a ++ b ++ c ++ d ++ e) f (g ++ (h ++ i)) ∙ append_assoc (a ++ b ++ c ++ d) e (f ++ (g ++ (h ++ i)))
    ∙ append_assoc (a ++ b ++ c) d (e ++ (f ++ (g ++ (h ++ i)))) ∙ append_assoc (a ++ b) c (d ++ (e ++ (f ++ (g ++ (h ++ i)))))
    ∙ append_assoc a b (c ++ (d ++ (e ++ (f ++ (g ++ (h ++ i))))))

-- seven of them
append-seven : (a b c d e f g : List ℕ) → a ++ b ++ c ++ d ++ e ++ f ++ g ≡ a ++ (b ++ (c ++ (d ++ (e ++ (f ++ g)))))
append-seven a b c d e f g =
    append_assoc (a ++ b ++ c ++ d ++ e) f g ∙ append_assoc (a ++ b ++ c ++ d) e (f ++ g) ∙ append_assoc (a ++ b ++ c) d (e ++ (f ++ g))
    ∙ append_assoc (a ++ b) c (d ++ (e ++ (f ++ g))) ∙ append_assoc a b (c ++ (d ++ (e ++ (f ++ g))))

-- five of them
append-five : (a b c d e : List ℕ) → a ++ b ++ c ++ d ++ e ≡ a ++ (b ++ (c ++ (d ++ e)))
append-five a b c d e = append_assoc (a ++ b ++ c) d e ∙ append_assoc (a ++ b) c (d ++ e) ∙ append_assoc a b (c ++ (d ++ e))

pub copy_line-fragments : (number links slices new : ℕ) (in_order : Bool) → copy_line number links slices new in_order
    ≡ codes "copy " ++ (decimal number ++ (codes " links " ++ (decimal links ++
    (codes " slices " ++ (decimal slices ++ (codes " new " ++ (decimal new ++ (order_word in_order ++ codes "\n"))))))))
copy_line-fragments number links slices new in_order =
    append_assoc (codes "copy " ++ decimal number ++ codes " links " ++ decimal links ++ codes " slices " ++ decimal slices ++ codes " new " ++ decimal new)
    (order_word in_order) (codes "\n")
    ∙ append-nine (codes "copy ") (decimal number) (codes " links ") (decimal links) (codes " slices ") (decimal slices) (codes " new ") (decimal new)
    (order_word in_order ++ codes "\n")

pub file_line-fragments : (number new : ℕ) → file_line number new
    ≡ codes "file " ++ (decimal number ++ (codes " new " ++ (decimal new ++ codes "\n")))
file_line-fragments number new = append-five (codes "file ") (decimal number) (codes " new ") (decimal new) (codes "\n")

pub restored_line-fragments : (count : ℕ) → restored_line count ≡ codes "restored " ++ (decimal count ++ codes " bytes\n")
restored_line-fragments count = append_assoc (codes "restored ") (decimal count) (codes " bytes\n")

pub stuck_line-fragments : (tile plane y x : ℕ) → stuck_line tile plane y x
    ≡ codes "tile " ++ (decimal tile ++ (codes " fault plane " ++ (decimal plane ++
    (codes " y " ++ (decimal y ++ (codes " x " ++ (decimal x ++ codes "\n")))))))
stuck_line-fragments tile plane y x =
    append-nine (codes "tile ") (decimal tile) (codes " fault plane ") (decimal plane) (codes " y ") (decimal y) (codes " x ") (decimal x) (codes "\n")

pub unclean_tile_line-fragments : (tile spare : ℕ) → unclean_tile_line tile spare
    ≡ codes "tile " ++ (decimal tile ++ (codes " unclean spare " ++ (decimal spare ++ codes "\n")))
unclean_tile_line-fragments tile spare = append-five (codes "tile ") (decimal tile) (codes " unclean spare ") (decimal spare) (codes "\n")

pub decoded_line-fragments : (width height planes : ℕ) → decoded_line width height planes
    ≡ codes "decoded " ++ (decimal width ++ (codes " x " ++ (decimal height ++ (codes " planes " ++ (decimal planes ++ codes "\n")))))
decoded_line-fragments width height planes =
    append-seven (codes "decoded ") (decimal width) (codes " x ") (decimal height) (codes " planes ") (decimal planes) (codes "\n")
