-- How the bytes of a range stand as a frame payload (RFC 9043, section 4.9), and the line that reports it.
use Rattle.std.specs.Prelude.{ℕ, ◌≡◌, ◌+◌, ◌==◌, ◌++◌, Bool, true, false, ◌&&◌, List, [], ◌∷◌, length, drop, take, count_by, nat_lt, codes}
use Rattle.std.specs.Fmt.{decimal}
use Rattle.ffv1_slice.specs.Bits.{bits_of}
use Rattle.ffv1_slice.specs.Parity.{remainder_of}
use Rattle.ffv1_slice.specs.Chain.{LinkValue, AreLinksOf}
use Rattle.ffv1_slice.specs.Ending.{EndsAs}
use Rattle.ffv1_slice.specs.declared.chain.ChainEnd.{ChainEnd}
use Rattle.ffv1_slice.specs.declared.chain.ChainEnd.TheVariants.{Whole, Broken}
use Rattle.ffv1_scan.specs.declared.ranges.ByteRange.{ByteRange}
use Rattle.ffv1_scan.specs.declared.verdict.Verdict.{Verdict}

-- whether a link has content before its footer, and passes its parity
abbrev pub is_passing : LinkValue → Bool
is_passing link = nat_lt 8 (length link.bytes) && remainder_of (bits_of link.bytes) == 0

-- How many links the bytes have, how many of these have content and pass their parity, and how their chain ends.
pub record IsVerdictOf (bytes : List ℕ) (verdict : Verdict) : Type 0 where
  pub links : List LinkValue
  pub are_links : AreLinksOf bytes links
  pub count : verdict.links ≡ length links
  pub passing : verdict.passing ≡ count_by is_passing links
  pub ends : EndsAs bytes verdict.end

-- the bytes of a range of a file
abbrev pub bytes_in : List ℕ → ByteRange → List ℕ
bytes_in file range = take range.size (drop range.place file)

-- each verdict is that of its range's bytes alone
abbrev pub AreVerdictsOf : List ℕ → List ByteRange → List Verdict → Type 0
AreVerdictsOf file [] [] = Unit {0}
AreVerdictsOf file [] (verdict ∷ verdicts) = ⊥
AreVerdictsOf file (range ∷ ranges) [] = ⊥
AreVerdictsOf file (range ∷ ranges) (verdict ∷ verdicts) = IsVerdictOf (bytes_in file range) verdict × AreVerdictsOf file ranges verdicts

abbrev pub is_whole : ChainEnd → Bool
is_whole Whole = true
is_whole (Broken place) = false

-- a range is whole, has a link, and all its links have content and pass their parity
abbrev pub is_undamaged : Verdict → Bool
is_undamaged verdict = is_whole verdict.end && (nat_lt 0 verdict.links && verdict.passing == verdict.links)

abbrev pub end_words : ChainEnd → List ℕ
end_words Whole = codes " whole\n"
end_words (Broken place) = codes " broken at " ++ decimal place ++ codes "\n"

-- the line of the range with this number
abbrev pub verdict_line : ℕ → Verdict → List ℕ
verdict_line number verdict =
    codes "range " ++ decimal number ++ codes " links " ++ decimal verdict.links ++ codes " pass " ++ decimal verdict.passing ++ end_words verdict.end

-- a line for each range, the first of which has this number
abbrev pub verdict_lines : ℕ → List Verdict → List ℕ
verdict_lines number [] = []
verdict_lines number (verdict ∷ verdicts) = verdict_line number verdict ++ verdict_lines (number + 1) verdicts
