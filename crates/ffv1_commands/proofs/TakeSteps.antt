-- One copy more is taken, and its line is added.
use Rattle.std.proofs.Common.{◌≡◌, ℕ, ◌+◌, ◌-◌, List, [], ◌∷◌, ◌++◌, length, Option, Bool, true, ◌&&◌, refl, sym, ap, ◌∙◌, append_assoc, append-nil}
use Rattle.std.proofs.Math.Bool.{and-true}
use Rattle.std.proofs.lemmas.List.Folds.{list_all-append}
use Rattle.ffv1_slice.specs.Walk.{links_of}
use Rattle.ffv1_slice.specs.Slices.{found_slices}
use Rattle.ffv1_holding.specs.Sets as set
use Rattle.ffv1_holding.specs.Reels.{Reel}
use Rattle.ffv1_holding.specs.Contents.{Contents, with_found, holding_of, no_slices}
use Rattle.ffv1_holding.proofs.ContentsLaws.{with_found-holding_of}
use Rattle.ffv1_holding.specs.declared.recordings.Recordings.{Recordings}
use Rattle.ffv1_devices.specs.Logs.{ReadLog}
use Rattle.ffv1_commands.specs.Devices.{TakesWhole}
use Rattle.ffv1_commands.specs.InTurn.{log_of}
use Rattle.ffv1_commands.specs.TakeText.{is_reported_in_order, are_reported_in_order, copy_line, held_of, line_after, lines_after, TakesEach}
use Rattle.ffv1_commands.specs.Inner.TakeText.{TakesOne}
use Rattle.ffv1_commands.proofs.InputLaws.{AreTaken-push, taken_whole, length-AreWholeInputs}

lines_after-push : (recordings : Recordings) (reel : Reel) (before copies : List (List ℕ)) (copy : List ℕ)
    → lines_after recordings reel before (copies ++ copy ∷ []) ≡ lines_after recordings reel before copies ++ line_after recordings reel (before ++ copies) copy
lines_after-push recordings reel before [] copy =
    append-nil (line_after recordings reel before copy) ∙ ap (λ b. line_after recordings reel b copy) (sym (append-nil before))
lines_after-push recordings reel before (c ∷ cs) copy =
    let line = line_after recordings reel in
    let lines = lines_after recordings reel in
    ap (λ t. line before c ++ t) (lines_after-push recordings reel (before ++ c ∷ []) cs copy)
    ∙ sym (append_assoc (line before c) (lines (before ++ c ∷ []) cs) (line ((before ++ c ∷ []) ++ cs) copy))
    ∙ ap (λ b. (line before c ++ lines (before ++ c ∷ []) cs) ++ line b copy) (append_assoc before (c ∷ []) cs)

-- the line of a copy, as its counts give it
line_after-from : (recordings : Recordings) (reel : Reel) (copies : List (List ℕ)) (copy : List ℕ) (number : ℕ) (old new : Contents) (in_order : Bool)
    → number ≡ length copies → old ≡ holding_of reel copies → new ≡ holding_of reel (copies ++ copy ∷ []) → in_order ≡ is_reported_in_order recordings old.reel copy
    → copy_line (number + 1) (length (links_of copy)) (length (found_slices old.reel.rules copy))
    (set.size new.slices - set.size old.slices) in_order ≡ line_after recordings reel copies copy
unfolding line_after
line_after-from recordings reel copies copy number old new in_order n o m said =
    ap (copy_line (number + 1) (length (links_of copy)) (length (found_slices old.reel.rules copy)) (set.size new.slices - set.size old.slices)) said
    ∙ ap (λ k. copy_line (k + 1) (length (links_of copy)) (length (found_slices old.reel.rules copy)) (set.size new.slices - set.size old.slices)
    (is_reported_in_order recordings old.reel copy)) n
    ∙ ap (λ (h : Contents). copy_line (length copies + 1) (length (links_of copy)) (length (found_slices h.reel.rules copy))
    (set.size new.slices - set.size h.slices) (is_reported_in_order recordings h.reel copy)) o
    ∙ ap (λ (h : Contents). copy_line (length copies + 1) (length (links_of copy)) (length (found_slices reel.rules copy))
    (set.size h.slices - held_of reel copies) (is_reported_in_order recordings reel copy)) m

-- one copy more: all are in order where those before it are, and it is
reported_more : (recordings : Recordings) (reel : Reel) (copies : List (List ℕ)) (copy : List ℕ) → are_reported_in_order recordings reel (copies ++ copy ∷ [])
    ≡ (are_reported_in_order recordings reel copies && is_reported_in_order recordings reel copy)
reported_more recordings reel copies copy =
    list_all-append (is_reported_in_order recordings reel) copies (copy ∷ [])
    ∙ ap (λ b. are_reported_in_order recordings reel copies && b) (and-true (is_reported_in_order recordings reel copy))

pub takes_none : (recordings : Recordings) (reel : Reel) (h : Contents) (text : List ℕ) → h ≡ no_slices reel → text ≡ []
    → TakesEach recordings [] reel h text true
takes_none recordings reel h text empty none = record { copies = []; read = tt; held = empty; lines = none; order = refl }

pub takes_reel : (recordings : Recordings) (inputs : List (Option (List ℕ))) (reel : Reel) (h : Contents) (text : List ℕ) (in_order : Bool)
    → TakesEach recordings inputs reel h text in_order → h.reel ≡ reel
takes_reel recordings inputs reel h text in_order each = ap (λ (x : Contents). x.reel) each.held

-- the same copy, read otherwise
pub taken_by : (recordings : Recordings) (IsRead Other : List ℕ → Type 0) (number : ℕ) (old new : Contents) (before after : List ℕ) (in_order : Bool)
    (one : TakesOne recordings IsRead number old new before after in_order) → Other one.copy → TakesOne recordings Other number old new before after in_order
taken_by recordings IsRead Other number old new before after in_order one read =
    record { copy = one.copy; read = read; held = one.held; line = one.line; order = one.order }

pub takes_more : (recordings : Recordings) (inputs : List (Option (List ℕ))) (reel : Reel) (old new : Contents) (before after : List ℕ)
    (input : Option (List ℕ)) (number : ℕ) (log : ReadLog) (all in_order : Bool) → TakesEach recordings inputs reel old before all → number ≡ length inputs
    → TakesOne recordings (TakesWhole (log_of input) log) (number + 1) old new before after in_order
    → TakesEach recordings (inputs ++ input ∷ []) reel new after (all && in_order)
takes_more recordings inputs reel old new before after input number log all in_order each n one =
    let same : old.reel ≡ reel = takes_reel recordings inputs reel old before all each in
    let held : new ≡ holding_of reel (each.copies ++ one.copy ∷ []) = one.held
    ∙ ap (λ h. with_found h one.copy) each.held ∙ with_found-holding_of reel each.copies one.copy in
    record {
      copies = each.copies ++ one.copy ∷ [];
      read = AreTaken-push inputs each.copies input one.copy each.read (log, one.read);
      held = held;
      lines = one.line ∙ ap (λ t. t ++ copy_line (number + 1) (length (links_of one.copy)) (length (found_slices old.reel.rules one.copy))
          (set.size new.slices - set.size old.slices) in_order) each.lines
          ∙ ap (λ t. lines_after recordings reel [] each.copies ++ t) (line_after-from recordings reel each.copies one.copy number old new in_order
          (n ∙ length-AreWholeInputs inputs each.copies (taken_whole inputs each.copies each.read)) each.held held one.order)
          ∙ sym (lines_after-push recordings reel [] each.copies one.copy);
      order = (λ i. each.order i && (one.order ∙ ap (λ (r : Reel). is_reported_in_order recordings r one.copy) same) i)
          ∙ sym (reported_more recordings reel each.copies one.copy);
    }
