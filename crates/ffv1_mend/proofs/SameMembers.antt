-- What becomes of a stretch rests on the set of its versions, but for how many there are of bytes without a checksum.
use Rattle.std.proofs.Common.{◌≡◌, ℕ, ◌<◌, List, [], ◌∷◌, Bor, Ok, Err, Result, length, get_or, sym, subst, arith, inl, inr}
use Rattle.std.specs.Prelude.{All, Contains, MatchResult, IsErrAnd, IfOk}
use Rattle.ffv1_slice.specs.Members.{HasSameMembers, IsOnly}
use Rattle.ffv1_weave.specs.Weave.{Weave, IsWeaveOf}
use Rattle.ffv1_weave.specs.Weave.Weave.{woven, disputed, missing, too_many}
use Rattle.ffv1_weave.specs.declared.check.Check.{Check}
use Rattle.ffv1_weave.specs.declared.check.Check.TheVariants as checks
use Rattle.ffv1_weave.specs.declared.check.Check.TheVariants.{Element}
use Rattle.ffv1_splice.specs.Standings.{versions_at}
use Rattle.ffv1_splice.specs.Splice.{SplicedValue, IsSpliceOf}
use Rattle.ffv1_weave.proofs.WeaveLaws.{weave_as, same_back}
use Rattle.ffv1_weave.proofs.FoundSteps.{only_as, two_as}
use Rattle.ffv1_weave.proofs.Mapped.{same_mapped}
use Rattle.ffv1_splice.proofs.Versions.{same_versions}
use Rattle.ffv1_splice.proofs.OneSplice.{splice_there}
use Rattle.ffv1_mend.specs.Passing.{IsPassing}
use Rattle.ffv1_mend.specs.Improved.{PartValue, IsPartMend, ArePartMends, patched, given_patches, improved, fallback}
use Rattle.ffv1_mend.specs.Improved.PartValue.{spliced, whole, disputed as two_pass, missing as none_passes}
use Rattle.ffv1_mend.specs.Mended.{MendedValue, IsNotWoven, StandsBy, IsCheckedMend, IsElementMend}
use Rattle.ffv1_mend.specs.declared.part.Part.{Part}
use Rattle.ffv1_mend.specs.declared.part.Sort.{Sort}
use Rattle.ffv1_mend.specs.declared.part.Sort.TheVariants.{Frame, Flac}
use Rattle.ffv1_mend.specs.declared.state.State.{State}
use Rattle.ffv1_mend.specs.declared.state.State.TheVariants.{Whole, Disputed, Woven, Missing, Alone, Agreed, Open}
use Rattle.ffv1_weave.specs.References.{values_of}
use Rattle.ffv1_weave.proofs.References.{value_there, each_value, length-values_of}
use Rattle.ffv1_mend.proofs.Members.{members_some}

pub improved_as : (versions others : List (List ℕ)) (parts : List Part) (mends : List PartValue) → HasSameMembers versions others
    → HasSameMembers (improved versions parts mends) (improved others parts mends)
improved_as versions others parts mends same = same_mapped (λ version. patched version (given_patches parts mends)) versions others same

module _ (check : Check) (versions others : List (List ℕ)) (same : HasSameMembers versions others) where
  pub passing_as : (version : List ℕ) → IsPassing check versions version → IsPassing check others version
  passing_as version h = record { there = (same version).0 h.there; passes = h.passes }

  pub passing_back : (version : List ℕ) → IsPassing check others version → IsPassing check versions version
  passing_back version h = record { there = (same version).1 h.there; passes = h.passes }

  module _ (tried retried : List (List ℕ)) (same_tried : HasSameMembers tried retried) where
    tried_weave : (weave : Weave) → IsWeaveOf check tried weave → IsWeaveOf check retried weave
    tried_weave weave h = weave_as check tried retried same_tried weave h

    not_woven_as : IsNotWoven check tried → IsNotWoven check retried
    not_woven_as (inl two) = inl (tried_weave disputed two)
    not_woven_as (inr (inl none)) = inr (inl (none.0, tried_weave (missing none.0) none.1))
    not_woven_as (inr (inr many)) = inr (inr (tried_weave too_many many))

    pub stands_as : (taken bytes : List ℕ) (state : State) → StandsBy check versions tried taken bytes state → StandsBy check others retried taken bytes state
    stands_as taken bytes Whole h = only_as (IsPassing check versions) (IsPassing check others) passing_as passing_back bytes h
    stands_as taken bytes Disputed h = (two_as (IsPassing check versions) (IsPassing check others) passing_as h.0, h.1)
    stands_as taken bytes (Woven count) h = (λ version p. h.0 version (passing_back version p), h.1, tried_weave (woven bytes count) h.2)
    stands_as taken bytes Missing h = (λ version p. h.0 version (passing_back version p), λ weaves. not_woven_as (h.1 weaves), h.2)
    stands_as taken bytes Alone h = h
    stands_as taken bytes Agreed h = h
    stands_as taken bytes Open h = h

-- bytes without parts
pub checked_as : (check : Check) (versions others : List (List ℕ)) → HasSameMembers versions others → (from : List ℕ) (mended : MendedValue)
    → IsCheckedMend check versions from mended → IsCheckedMend check others from mended
checked_as check versions others same from mended h =
    record { stands = stands_as check versions others same versions others same from mended.bytes mended.state h.stands; none = h.none }

-- a part of each sort
pub part_as : (versions others : List (List ℕ)) → HasSameMembers versions others → (sort : Sort) (mend : PartValue) → IsPartMend sort versions mend
    → IsPartMend sort others mend
part_as versions others same Frame (spliced splice) h = splice_there versions others same splice h
part_as versions others same Frame (whole bytes) h = absurd h
part_as versions others same Frame two_pass h = absurd h
part_as versions others same Frame none_passes h = absurd h
part_as versions others same Flac (spliced splice) h = absurd h
part_as versions others same Flac (whole bytes) h =
    only_as (IsPassing checks.Flac versions) (IsPassing checks.Flac others) (passing_as checks.Flac versions others same)
    (passing_back checks.Flac versions others same) bytes h
part_as versions others same Flac two_pass h =
    two_as (IsPassing checks.Flac versions) (IsPassing checks.Flac others) (passing_as checks.Flac versions others same) h
part_as versions others same Flac none_passes h = λ version p. h version (passing_back checks.Flac versions others same version p)

-- each part
pub parts_as : (versions others : List (List ℕ)) → HasSameMembers versions others → (parts : List Part) (mends : List PartValue)
    → ArePartMends versions parts mends → ArePartMends others parts mends
parts_as versions others same [] [] h = h
parts_as versions others same [] (mend ∷ mends) h = h
parts_as versions others same (part ∷ parts) [] h = h
parts_as versions others same (part ∷ parts) (mend ∷ mends) h = (
  part_as (versions_at versions part.start part.end) (versions_at others part.start part.end) (same_versions versions others same part.start part.end)
      part.sort mend h.0,
  parts_as versions others same parts mends h.1,
)

module _ (versions others : List (List ℕ)) (same : HasSameMembers versions others) where
  pub all_as : (bytes : List ℕ) → IsOnly (Contains versions) bytes → IsOnly (Contains others) bytes
  all_as bytes h = only_as (Contains versions) (Contains others) (λ version. (same version).0) (λ version. (same version).1) bytes h

  all_back : (bytes : List ℕ) → IsOnly (Contains others) bytes → IsOnly (Contains versions) bytes
  all_back bytes h = only_as (Contains others) (Contains versions) (λ version. (same version).1) (λ version. (same version).0) bytes h

  pub element_as : (from : List ℕ) (parts : List Part) (mended : MendedValue) → IsElementMend versions from parts mended
      → IsElementMend others from parts mended
  element_as from parts mended h =
      record {
        mends = elim h.mends [
          | inl all ↦ inl ((all.0.0, all_as mended.bytes all.0.1), all.1)
          | inr each ↦ inr (
            λ whole. each.0 (whole.0, all_back mended.bytes whole.1),
            parts_as versions others same parts mended.parts each.1,
          )
        ];
        stands = stands_as Element versions others same (improved versions parts mended.parts) (improved others parts mended.parts)
            (improved_as versions others parts mended.parts same) (fallback from parts mended.parts) mended.bytes mended.state h.stands;
      }

-- ---- as the code lends them

module _ (versions lent : List (Bor (List ℕ))) (same : HasSameMembers (values_of versions) (values_of lent)) where
  pub some_lent : 0 < length versions → 0 < length lent
  some_lent some =
      let many = members_some (values_of versions) (values_of lent) same (omega (arith, length-values_of versions)) in
      omega (arith, length-values_of lent)

  pub lengths_lent : (size : ℕ) → All (λ version. length version.now ≡ size) versions → All (λ version. length version.now ≡ size) lent
  lengths_lent size long k d lt =
      each_value versions (λ version. length version ≡ size) long (get_or lent k d).now ((same (get_or lent k d).now).1 (value_there lent k d lt))

  pub splice_lent : (splice : SplicedValue) → IsSpliceOf (values_of lent) splice → IsSpliceOf (values_of versions) splice
  splice_lent splice h = splice_there (values_of lent) (values_of versions) (same_back (values_of versions) (values_of lent) same) splice h

  pub element_lent : (from : List ℕ) (parts : List Part) (mended : MendedValue) → IsElementMend (values_of lent) from parts mended
      → IsElementMend (values_of versions) from parts mended
  element_lent from parts mended h =
      element_as (values_of lent) (values_of versions) (same_back (values_of versions) (values_of lent) same) from parts mended h

  pub part_lent : (sort : Sort) (mend : PartValue) → IsPartMend sort (values_of lent) mend → IsPartMend sort (values_of versions) mend
  part_lent sort mend h = part_as (values_of lent) (values_of versions) (same_back (values_of versions) (values_of lent) same) sort mend h

  pub checked_lent : (check : Check) (from : List ℕ) (mended : MendedValue) → IsCheckedMend check (values_of lent) from mended
      → IsCheckedMend check (values_of versions) from mended
  checked_lent check from mended h =
      checked_as check (values_of lent) (values_of versions) (same_back (values_of versions) (values_of lent) same) from mended h

-- a result whose refusal was mapped has the same value
pub kept_ok : {X E F : Type 0} (r : Result X E) (s : Result X F) (P : X → Type 0) (Q : E → F → Type 0)
    → MatchResult r (λ x. s ≡ Ok x) (λ e. IsErrAnd s (Q e)) → IfOk r P → IfOk s P
kept_ok (Ok x) s P Q is h = subst (λ z. IfOk z P) (sym is) h
kept_ok (Err e) (Ok y) P Q is h = absurd is
kept_ok (Err e) (Err f) P Q is h = tt
