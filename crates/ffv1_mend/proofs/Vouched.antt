-- A checksum, or two versions at least that are alike, vouch for what is good.
use Rattle.std.proofs.Common.{◌≡◌, ◌<◌, ℕ, true, List, length, sym, subst, arith, inl, inr}
use Rattle.ffv1_slice.specs.Members.{IsOnly}
use Rattle.ffv1_splice.specs.Splice.{SplicedValue, IsGivenBack}
use Rattle.ffv1_splice.specs.Whole.{IsWholeFrame}
use Rattle.ffv1_splice.proofs.WholeFrames.{given_back_is_whole}
use Rattle.std.specs.Prelude.{◌⊎◌, Contains}
use Rattle.ffv1_weave.specs.Checks.{PassesBy}
use Rattle.ffv1_weave.specs.declared.check.Check.{Check}
use Rattle.ffv1_weave.specs.declared.check.Check.TheVariants as checks
use Rattle.ffv1_weave.specs.declared.check.Check.TheVariants.{Element}
use Rattle.ffv1_mend.specs.Improved.{improved, fallback}
use Rattle.ffv1_mend.specs.Mended.{StandsBy, FrameStands, PlainStands, is_good}
use Rattle.ffv1_mend.specs.Laws.{AreAlike, GoodIsVouched}
use Rattle.ffv1_mend.specs.declared.kind.Kind.TheVariants.{Frame, Crc32, Record, Flac, Plain}
use Rattle.ffv1_mend.specs.declared.state.State.{State}
use Rattle.ffv1_mend.specs.declared.state.State.TheVariants.{Whole, Disputed, Woven, Missing, Alone, Agreed, Open}
use Rattle.ffv1_mend.proofs.MendLaws.{settled_given, only_alone}

pub good_given : (splice : SplicedValue) (state : State) → FrameStands splice state → is_good state ≡ true → IsGivenBack splice
good_given splice Whole stands good = settled_given splice stands
good_given splice (Woven count) stands good = stands.0
good_given splice Missing stands good = absurd (cc)
good_given splice Disputed stands good = absurd stands
good_given splice Alone stands good = absurd stands
good_given splice Agreed stands good = absurd stands
good_given splice Open stands good = absurd stands

pub good_passes : (check : Check) (versions tried : List (List ℕ)) (taken bytes : List ℕ) (state : State)
    → StandsBy check versions tried taken bytes state → is_good state ≡ true → PassesBy check bytes
good_passes check versions tried taken bytes Whole stands good = stands.there.passes
good_passes check versions tried taken bytes (Woven count) stands good = stands.2.0.there.passes
good_passes check versions tried taken bytes Missing stands good = absurd (cc)
good_passes check versions tried taken bytes Disputed stands good = absurd (cc)
good_passes check versions tried taken bytes Alone stands good = absurd stands
good_passes check versions tried taken bytes Agreed stands good = absurd stands
good_passes check versions tried taken bytes Open stands good = absurd stands

good_alike : (versions : List (List ℕ)) (from bytes : List ℕ) (state : State) → PlainStands versions from bytes state → is_good state ≡ true
    → AreAlike versions bytes
good_alike versions from bytes Agreed stands good =
    let many : 1 < length versions = stands.0 in
    record { count = omega arith; each = stands.1 }
good_alike versions from bytes Alone stands good = absurd (cc)
good_alike versions from bytes Open stands good = absurd (cc)
good_alike versions from bytes Whole stands good = absurd stands
good_alike versions from bytes Disputed stands good = absurd stands
good_alike versions from bytes (Woven count) stands good = absurd stands
good_alike versions from bytes Missing stands good = absurd stands

-- bytes without a checksum that are good or alone are every version
pub only_version : (versions : List (List ℕ)) (from bytes : List ℕ) (state : State) → PlainStands versions from bytes state
    → (is_good state ≡ true) ⊎ (state ≡ Alone) → IsOnly (Contains versions) bytes
only_version versions from bytes state stands (inl good) = (good_alike versions from bytes state stands good).each
only_version versions from bytes state stands (inr is_alone) =
    only_alone versions bytes (subst (PlainStands versions from bytes) is_alone stands)

pub good_is_vouched : GoodIsVouched
good_is_vouched Frame versions from parts mended h good =
    subst IsWholeFrame (sym h.bytes) (given_back_is_whole versions h.splice h.is_splice (good_given h.splice mended.state h.stands good))
good_is_vouched Crc32 versions from parts mended h good =
    good_passes Element versions (improved versions parts mended.parts) (fallback from parts mended.parts) mended.bytes mended.state h.stands good
good_is_vouched Record versions from parts mended h good = good_passes checks.Record versions versions from mended.bytes mended.state h.stands good
good_is_vouched Flac versions from parts mended h good = good_passes checks.Flac versions versions from mended.bytes mended.state h.stands good
good_is_vouched Plain versions from parts mended h good = good_alike versions from mended.bytes mended.state h.stands good
