-- The laws of the command `splice`, for copies that are read as they were written: the same copies give the same, and copies of an
-- original that no slice in them contradicts give the original.
use Rattle.std.specs.Prelude.{ℕ, ◌+◌, ◌≡◌, ◌++◌, Bool, true, List, [], length, map, Option, Some, codes}
use Rattle.std.specs.List.{flat_map}
use Rattle.ffv1_slice.specs.Chain.{IsLinkOf, LinkValue}
use Rattle.ffv1_slice.specs.Members.{HasSameMembers}
use Rattle.ffv1_slice.specs.Walk.{links_of}
use Rattle.ffv1_splice.specs.Whole.{IsWholeFrame}
use Rattle.ffv1_splice.specs.Originals.{AreCopiesOf, AreConsistentWith, AreConsistentFromBelow, HaveEachLink, IsAmong, AreWeavable, AreNearCopies, IsIntactInSome}
use Rattle.ffv1_splice.specs.declared.place.Standing.TheVariants.{Settled}
use Rattle.ffv1_commands.specs.Commands.{IsNoFaultOfBytes}
use Rattle.ffv1_commands.specs.SpliceText.{standing_line, SplicesCopies, SpliceStops}
use Rattle.ffv1_commands.specs.declared.fault.CliFault.{CliFault}

-- What the command makes: the file OUT, what it prints, and what it returns.
pub record Made : Type 0 where
  pub file : List ℕ
  pub printed : List ℕ
  pub returned : Bool

-- The command makes this of copies with these bytes.
abbrev pub SplicesTo : List (List ℕ) → Made → Type 0
SplicesTo copies made = SplicesCopies (map Some copies) (Some []) (Some made.file) (Some []) (Some made.printed) made.returned

-- the line of a link that is settled
abbrev pub settled_line : LinkValue → List ℕ
settled_line link = standing_line (record { start = link.start; end = link.start + length link.bytes; standing = Settled })

-- The original itself, a settled line for each of its links from its end, and `end whole`.
abbrev pub whole_of : List ℕ → Made
whole_of original = record { file = original; printed = flat_map settled_line (links_of original) ++ codes "end whole\n"; returned = true }

-- The command makes the original of the copies, and is refused only because reading, writing or memory failed.
pub record GiveOnly (copies : List (List ℕ)) (original : List ℕ) : Type 0 where
  pub made : (made : Made) → SplicesTo copies made → made ≡ whole_of original
  pub refused : (out_before out_after printed_before printed_after : Option (List ℕ)) (fault : CliFault)
      → SpliceStops (map Some copies) out_before out_after printed_before printed_after fault → IsNoFaultOfBytes fault

-- Where the command returns `true`, it made the original of the copies; and it is refused only because reading, writing or memory failed.
pub record GiveOnlyIfTrue (copies : List (List ℕ)) (original : List ℕ) : Type 0 where
  pub made : (made : Made) → SplicesTo copies made → made.returned ≡ true → made.file ≡ original
  pub refused : (out_before out_after printed_before printed_after : Option (List ℕ)) (fault : CliFault)
      → SpliceStops (map Some copies) out_before out_after printed_before printed_after fault → IsNoFaultOfBytes fault

-- ---- laws

-- However the same copies are ordered or repeated, the command makes the same of them.
abbrev pub SameCopiesMakeOneSplice : Type 0
SameCopiesMakeOneSplice =
    (copies others : List (List ℕ)) (one other : Made) → HasSameMembers copies others → SplicesTo copies one → SplicesTo others other → one ≡ other

-- Where no slice in the copies contradicts the original, and each of its links is found in some copy, the copies give the original.
abbrev pub SpliceGivesTheOriginal : Type 0
SpliceGivesTheOriginal =
    (original : List ℕ) (copies : List (List ℕ)) → AreCopiesOf original copies → AreConsistentWith original copies → HaveEachLink original copies
    → GiveOnly copies original

-- So do copies that are near the original, where each of its links is intact in one of them.
abbrev pub SpliceGivesNearCopies : Type 0
SpliceGivesNearCopies =
    (original : List ℕ) (copies : List (List ℕ)) → AreNearCopies original copies
    → ((start end : ℕ) → IsLinkOf original start end → IsIntactInSome original copies start end)
    → GiveOnly copies original

-- Where some links are intact in no copy, but a footer of some copy claims each start, and each link is among the combinations that are
-- tried there: where it returns `true`, what it wrote is the original.
abbrev pub SpliceGivesWovenCopies : Type 0
SpliceGivesWovenCopies =
    (original : List ℕ) (copies : List (List ℕ)) → AreCopiesOf original copies → AreWeavable original copies → GiveOnlyIfTrue copies original

-- So it is of near copies where each link is among the combinations that are tried of what they have there, and each slice that begins at a
-- start of a link is that link.
abbrev pub SpliceGivesNearWovenCopies : Type 0
SpliceGivesNearWovenCopies =
    (original : List ℕ) (copies : List (List ℕ)) → AreNearCopies original copies → AreConsistentFromBelow original copies
    → ((start end : ℕ) → IsLinkOf original start end → IsAmong original copies start end)
    → GiveOnlyIfTrue copies original

-- Where it returns `true`, the file is a whole frame.
abbrev pub TrueIsWhole : Type 0
TrueIsWhole = (copies : List (List ℕ)) (made : Made) → SplicesTo copies made → made.returned ≡ true → IsWholeFrame made.file
