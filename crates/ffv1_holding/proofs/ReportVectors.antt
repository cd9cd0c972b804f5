-- What is reported, evaluated on worked tiles and counts.
use Rattle.std.proofs.Common.{◌≡◌, ℕ, List, [], ◌∷◌, refl}
use Rattle.std.specs.Prelude.{codes}
use Rattle.std.specs.Fmt.{digits}
use Rattle.ffv1_holding.specs.TileState.{tile_state_of}
use Rattle.ffv1_holding.specs.ReportText.{tile_words, count_words, hex_byte}

black : List ℕ
black = 0xFD ∷ 0xF6 ∷ 0x80 ∷ 0 ∷ 0 ∷ 3 ∷ 0 ∷ 0x1C ∷ 0x3E ∷ 0xA0 ∷ 0x9B ∷ []

dark : List ℕ
dark = 0xFD ∷ 0xF6 ∷ 0x40 ∷ 0 ∷ 0 ∷ 3 ∷ 0 ∷ 0x17 ∷ 0x60 ∷ 0xA5 ∷ 0x79 ∷ []

disputed_words : tile_words (dark ∷ black ∷ []) (tile_state_of (dark ∷ black ∷ [])) ≡ codes " disputed 2 status 0 held 2"
unfolding black dark digits
disputed_words = refl

missing_words : tile_words [] (tile_state_of []) ≡ codes " missing"
missing_words = refl

one_disputed : count_words 0 1 0 ≡ codes "settled 0 disputed 1 missing 0\n"
unfolding digits
one_disputed = refl

none_held : count_words 0 0 2 ≡ codes "settled 0 disputed 0 missing 2\n"
unfolding digits
none_held = refl

hex_digits : hex_byte 0x9B ≡ codes "9b"
hex_digits = refl
