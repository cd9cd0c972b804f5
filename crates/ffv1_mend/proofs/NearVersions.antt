-- Of versions that are near an original, none that passes is another.
use Rattle.std.proofs.Common.{◌≡◌, ℕ, ◌*◌, List, sym, ap, ◌∙◌, subst, inl, inr}
use Rattle.std.specs.Prelude.{Contains}
use Rattle.ffv1_bits.specs.Bits.{bits_of}
use Rattle.ffv1_bits.specs.Parity.{AreBytes, DifferWithin32, remainder_of}
use Rattle.ffv1_bits.proofs.Burst.{burst, same_bits, same_bytes, length-bits}
use Rattle.ebml.proofs.CrcElements.{burst_seen}
use Rattle.flac_frame.proofs.Checks as flac
use Rattle.ffv1_slice.specs.Members.{IsOnly, IsOfTwo}
use Rattle.ffv1_weave.specs.Checks.{PassesBy, CanWeave}
use Rattle.ffv1_weave.specs.Combinations.{IsAmongTried}
use Rattle.ffv1_weave.specs.declared.check.Check.{Check}
use Rattle.ffv1_weave.specs.declared.check.Check.TheVariants as checks
use Rattle.ffv1_weave.specs.declared.check.Check.TheVariants.{Element}
use Rattle.ffv1_splice.proofs.NearCopies.{near_copies_splice}
use Rattle.ffv1_mend.specs.Passing.{IsPassing}
use Rattle.ffv1_mend.specs.Improved.{improved, fallback}
use Rattle.ffv1_mend.specs.Mended.{StandsBy}
use Rattle.ffv1_mend.specs.Laws.{IsOriginalBy, DifferNear, AreNearVersions, NearVersionsMend}
use Rattle.ffv1_mend.specs.declared.state.State.{State}
use Rattle.ffv1_mend.specs.declared.state.State.TheVariants.{Whole, Disputed}
use Rattle.ffv1_mend.proofs.Covered.{original_is_mended}
use Rattle.ffv1_mend.proofs.Vouched.{good_given}

-- damage to a record within 32 bits is seen, as that to a slice is
record_burst : (a b : List ℕ) (at : ℕ) → AreBytes a → AreBytes b → DifferWithin32 a b at → remainder_of (bits_of a) ≡ remainder_of (bits_of b) → a ≡ b
record_burst a b at h k d same =
    same_bytes a b h k d.same_length
    (same_bits at (bits_of a) (bits_of b) (length-bits a ∙ ap (λ n. 8 * n) d.same_length ∙ sym (length-bits b)) d.front d.back same)

near_seen : (check : Check) (a b : List ℕ) (at : ℕ) → AreBytes a → AreBytes b → DifferNear check a b at → PassesBy check a → PassesBy check b → a ≡ b
near_seen checks.Slice a b at h k d p q = burst a b at h k d p.1 q.1
near_seen checks.Element a b at h k d p q = burst_seen a b at h k d p q
near_seen checks.Record a b at h k d p q = record_burst a b at h k d (p.0.1 ∙ sym q.0.1)
near_seen checks.Flac a b at h k d p q = flac.burst a b at h k d p q

module _ (check : Check) (original : List ℕ) (versions : List (List ℕ)) (of : AreNearVersions check original versions) where
  passing_is_original : (version : List ℕ) → Contains versions version → PassesBy check version → version ≡ original
  passing_is_original version there passes = elim (of.near version there) [
    | inl same ↦ same
    | inr damaged ↦ sym (near_seen check original version damaged.1.0 of.are_bytes damaged.0 damaged.1.1 of.passes passes)
  ]

  near_original : (tried : List (List ℕ)) → (CanWeave check → IsAmongTried tried original) → IsOriginalBy check original versions tried
  near_original tried among = record { passes = of.passes; alone = passing_is_original; among = among }

  not_two : IsOfTwo (IsPassing check versions) → ⊥
  not_two h =
      h.differ (passing_is_original h.one h.one_there.there h.one_there.passes
      ∙ sym (passing_is_original h.other h.other_there.there h.other_there.passes))

  module _ (tried : List (List ℕ)) (taken bytes : List ℕ) (state : State) (is : StandsBy check versions tried taken bytes state) where
    whole_is : state ≡ Whole → bytes ≡ original
    whole_is whole =
        let only : IsOnly (IsPassing check versions) bytes = subst (StandsBy check versions tried taken bytes) whole is in
        passing_is_original bytes only.there.there only.there.passes

    not_disputed : state ≡ Disputed → ⊥
    not_disputed disputed = not_two (subst (StandsBy check versions tried taken bytes) disputed is).0

pub near_versions_mend : NearVersionsMend
near_versions_mend =
    record {
      alone = passing_is_original;
      whole = λ original versions from parts mended of is state.
          whole_is Element original versions of (improved versions parts mended.parts) (fallback from parts mended.parts) mended.bytes mended.state is.stands
          state;
      undisputed = λ original versions from parts mended of is state.
          not_disputed Element original versions of (improved versions parts mended.parts) (fallback from parts mended.parts) mended.bytes mended.state
          is.stands state;
      whole_by = λ check original versions from mended of is state.
          whole_is check original versions of versions from mended.bytes mended.state is.stands state;
      undisputed_by = λ check original versions from mended of is state.
          not_disputed check original versions of versions from mended.bytes mended.state is.stands state;
      kept = λ original versions from parts mended of among is.
          original_is_mended.kept original versions from parts mended (near_original Element original versions of (improved versions parts mended.parts)
          (λ _. among)) is;
      kept_by = λ check original versions from mended of among is.
          original_is_mended.kept_by check original versions from mended (near_original check original versions of versions among) is;
      frame = λ original versions mended near below among is good.
          is.bytes ∙ near_copies_splice.woven original versions is.splice near below among is.is_splice (good_given is.splice mended.state is.stands good);
    }
