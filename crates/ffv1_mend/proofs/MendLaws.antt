-- The same versions mend alike.
use Rattle.std.proofs.Common.{◌≡◌, ℕ, true, false, List, [], ◌∷◌, length, refl, sym, ap, ◌∙◌, subst, arith, inl, inr}
use Rattle.std.specs.Prelude.{◌⊎◌, Contains}
use Rattle.ffv1_slice.specs.Members.{HasSameMembers, IsOnly, IsOfTwo, IsOfNone}
use Rattle.ffv1_weave.specs.Weave.{Weave, IsWeaveOf}
use Rattle.ffv1_weave.specs.Weave.Weave.{woven, disputed, missing, too_many}
use Rattle.ffv1_weave.specs.declared.check.Check.{Check}
use Rattle.ffv1_weave.specs.declared.check.Check.TheVariants as checks
use Rattle.ffv1_weave.specs.declared.check.Check.TheVariants.{Element}
use Rattle.ffv1_weave.proofs.WeaveLaws.{same_versions_weave, same_back}
use Rattle.ffv1_splice.specs.Standings.{versions_at}
use Rattle.ffv1_splice.specs.Splice.{SplicedValue, IsSettledOrWoven, IsGivenBack}
use Rattle.ffv1_splice.proofs.Versions.{same_versions}
use Rattle.ffv1_splice.proofs.OneSplice.{same_copies_splice}
use Rattle.ffv1_weave.proofs.ChoiceSteps.{alone}
use Rattle.ffv1_mend.specs.Passing.{IsPassing}
use Rattle.ffv1_mend.specs.Improved.{PartValue, IsPartMend, ArePartMends, improved, fallback}
use Rattle.ffv1_mend.specs.Improved.PartValue.{spliced, whole, disputed as two_pass, missing as none_passes}
use Rattle.ffv1_mend.specs.Mended.{MendedValue, IsNotWoven, StandsBy, IsCheckedMend, ElementStands, IsWholeInAll, IsElementMend, IsFrameSettled, FrameStands, IsFrameMend, PlainStands, IsMendOf, is_good}
use Rattle.ffv1_mend.specs.Laws.{IsUnanimous, IsSameMend, SameVersionsMend}
use Rattle.ffv1_mend.specs.declared.kind.Kind.{Kind}
use Rattle.ffv1_mend.specs.declared.kind.Kind.TheVariants.{Frame, Crc32, Record, Flac, Plain}
use Rattle.ffv1_mend.specs.declared.part.Part.{Part}
use Rattle.ffv1_mend.specs.declared.part.Sort.{Sort}
use Rattle.ffv1_mend.specs.declared.part.Sort.TheVariants as Sorts
use Rattle.ffv1_mend.specs.declared.state.State.{State}
use Rattle.ffv1_mend.specs.declared.state.State.TheVariants.{Whole, Disputed, Woven, Missing, Alone, Agreed, Open}
use Rattle.ffv1_mend.proofs.SameMembers.{improved_as, passing_as, passing_back, all_as}

same_value : (one other : MendedValue) → one.state ≡ other.state → one.bytes ≡ other.bytes → one.parts ≡ other.parts → one ≡ other
same_value one other states bytes parts =
    ap (λ s. record { state = s; bytes = one.bytes; parts = one.parts }) states
    ∙ ap (λ b. record { state = other.state; bytes = b; parts = one.parts }) bytes
    ∙ ap (λ ps. record { state = other.state; bytes = other.bytes; parts = ps }) parts

-- ---- what passes

-- what passes is the same of the same versions
module _ (check : Check) (versions others : List (List ℕ)) (same : HasSameMembers versions others) where
  only_one : (a b : List ℕ) → IsOnly (IsPassing check versions) a → IsOnly (IsPassing check others) b → a ≡ b
  only_one a b h k = k.others a (passing_as check versions others same a h.there)

  only_not_two : (a : List ℕ) → IsOnly (IsPassing check versions) a → IsOfTwo (IsPassing check others) → ⊥
  only_not_two a h k =
      k.differ (h.others k.one (passing_back check versions others same k.one k.one_there)
      ∙ sym (h.others k.other (passing_back check versions others same k.other k.other_there)))

  two_not_only : (b : List ℕ) → IsOfTwo (IsPassing check versions) → IsOnly (IsPassing check others) b → ⊥
  two_not_only b h k =
      h.differ (k.others h.one (passing_as check versions others same h.one h.one_there)
      ∙ sym (k.others h.other (passing_as check versions others same h.other h.other_there)))

  only_not_none : (a : List ℕ) → IsOnly (IsPassing check versions) a → IsOfNone (IsPassing check others) → ⊥
  only_not_none a h k = k a (passing_as check versions others same a h.there)

  none_not_only : (b : List ℕ) → IsOfNone (IsPassing check versions) → IsOnly (IsPassing check others) b → ⊥
  none_not_only b h k = h b (passing_back check versions others same b k.there)

  two_not_none : IsOfTwo (IsPassing check versions) → IsOfNone (IsPassing check others) → ⊥
  two_not_none h k = k h.one (passing_as check versions others same h.one h.one_there)

  none_not_two : IsOfNone (IsPassing check versions) → IsOfTwo (IsPassing check others) → ⊥
  none_not_two h k = h k.one (passing_back check versions others same k.one k.one_there)

-- ---- parts

one_part : (versions others : List (List ℕ)) (sort : Sort) (one other : PartValue) → HasSameMembers versions others → IsPartMend sort versions one
    → IsPartMend sort others other → one ≡ other
one_part versions others Sorts.Frame (spliced x) (spliced y) same h k = ap spliced (same_copies_splice versions others x y same h k)
one_part versions others Sorts.Frame (spliced x) (whole b) same h k = absurd k
one_part versions others Sorts.Frame (spliced x) two_pass same h k = absurd k
one_part versions others Sorts.Frame (spliced x) none_passes same h k = absurd k
one_part versions others Sorts.Frame (whole a) other same h k = absurd h
one_part versions others Sorts.Frame two_pass other same h k = absurd h
one_part versions others Sorts.Frame none_passes other same h k = absurd h
one_part versions others Sorts.Flac (spliced x) other same h k = absurd h
one_part versions others Sorts.Flac (whole a) (spliced y) same h k = absurd k
one_part versions others Sorts.Flac (whole a) (whole b) same h k = ap whole (only_one checks.Flac versions others same a b h k)
one_part versions others Sorts.Flac (whole a) two_pass same h k = absurd (only_not_two checks.Flac versions others same a h k)
one_part versions others Sorts.Flac (whole a) none_passes same h k = absurd (only_not_none checks.Flac versions others same a h k)
one_part versions others Sorts.Flac two_pass (spliced y) same h k = absurd k
one_part versions others Sorts.Flac two_pass (whole b) same h k = absurd (two_not_only checks.Flac versions others same b h k)
one_part versions others Sorts.Flac two_pass two_pass same h k = refl
one_part versions others Sorts.Flac two_pass none_passes same h k = absurd (two_not_none checks.Flac versions others same h k)
one_part versions others Sorts.Flac none_passes (spliced y) same h k = absurd k
one_part versions others Sorts.Flac none_passes (whole b) same h k = absurd (none_not_only checks.Flac versions others same b h k)
one_part versions others Sorts.Flac none_passes two_pass same h k = absurd (none_not_two checks.Flac versions others same h k)
one_part versions others Sorts.Flac none_passes none_passes same h k = refl

one_parts : (versions others : List (List ℕ)) (parts : List Part) (one other : List PartValue) → HasSameMembers versions others
    → ArePartMends versions parts one → ArePartMends others parts other → one ≡ other
one_parts versions others [] [] [] same h k = refl
one_parts versions others [] [] (y ∷ ys) same h k = absurd k
one_parts versions others [] (x ∷ xs) other same h k = absurd h
one_parts versions others (part ∷ parts) [] other same h k = absurd h
one_parts versions others (part ∷ parts) (x ∷ xs) [] same h k = absurd k
one_parts versions others (part ∷ parts) (x ∷ xs) (y ∷ ys) same h k =
    let here : x ≡ y =
    one_part (versions_at versions part.start part.end) (versions_at others part.start part.end) part.sort x y
    (same_versions versions others same part.start part.end) h.0 k.0 in
    let rest : xs ≡ ys = one_parts versions others parts xs ys same h.1 k.1 in
    cc

-- ---- bytes with a checksum of their own

module _ (check : Check) (versions others : List (List ℕ)) (same : HasSameMembers versions others) (tried retried : List (List ℕ)) where
  -- what is the only one that passes is so of the same versions, whatever is woven
  whole_then : (taken a b : List ℕ) (state : State) → IsOnly (IsPassing check versions) a → StandsBy check others retried taken b state
      → (Whole ≡ state) × (a ≡ b)
  whole_then taken a b Whole h k = (refl, only_one check versions others same a b h k)
  whole_then taken a b Disputed h k = absurd (only_not_two check versions others same a h k.0)
  whole_then taken a b (Woven count) h k = absurd (only_not_none check versions others same a h k.0)
  whole_then taken a b Missing h k = absurd (only_not_none check versions others same a h k.0)
  whole_then taken a b Alone h k = absurd k
  whole_then taken a b Agreed h k = absurd k
  whole_then taken a b Open h k = absurd k

  module _ (same_tried : HasSameMembers tried retried) where
    one_weave : (v w : Weave) → IsWeaveOf check tried v → IsWeaveOf check retried w → v ≡ w
    one_weave v w h k = same_versions_weave check tried retried v w same_tried h k

    woven_not_missing : (a : List ℕ) (m : ℕ) → IsWeaveOf check tried (woven a m) → IsNotWoven check retried → ⊥
    woven_not_missing a m h (inl d) = let e = one_weave (woven a m) disputed h d in absurd (cc)
    woven_not_missing a m h (inr (inl none)) = let e = one_weave (woven a m) (missing none.0) h none.1 in absurd (cc)
    woven_not_missing a m h (inr (inr many)) = let e = one_weave (woven a m) too_many h many in absurd (cc)

    missing_not_woven : (b : List ℕ) (n : ℕ) → IsNotWoven check tried → IsWeaveOf check retried (woven b n) → ⊥
    missing_not_woven b n (inl d) k = let e = one_weave disputed (woven b n) d k in absurd (cc)
    missing_not_woven b n (inr (inl none)) k = let e = one_weave (missing none.0) (woven b n) none.1 k in absurd (cc)
    missing_not_woven b n (inr (inr many)) k = let e = one_weave too_many (woven b n) many k in absurd (cc)

    -- where nothing vouches, the bytes are those that are taken
    same_taken : (s : State) (taken retaken a b : List ℕ) → is_good s ≡ false → a ≡ taken → b ≡ retaken → (is_good s ≡ true) ⊎ (taken ≡ retaken) → a ≡ b
    same_taken s taken retaken a b not h k (inl good) = absurd (cc)
    same_taken s taken retaken a b not h k (inr alike) = h ∙ alike ∙ sym k

    one_state : (taken retaken : List ℕ) (s t : State) (a b : List ℕ) → StandsBy check versions tried taken a s → StandsBy check others retried retaken b t
        → (s ≡ t) × ((is_good s ≡ true) ⊎ (taken ≡ retaken) → a ≡ b)
    one_state taken retaken Whole t a b h k = let then = whole_then retaken a b t h k in (then.0, λ reason. then.1)
    one_state taken retaken Disputed Whole a b h k = absurd (two_not_only check versions others same b h.0 k)
    one_state taken retaken Disputed Disputed a b h k = (refl, same_taken Disputed taken retaken a b refl h.1 k.1)
    one_state taken retaken Disputed (Woven n) a b h k = absurd (two_not_none check versions others same h.0 k.0)
    one_state taken retaken Disputed Missing a b h k = absurd (two_not_none check versions others same h.0 k.0)
    one_state taken retaken Disputed Alone a b h k = absurd k
    one_state taken retaken Disputed Agreed a b h k = absurd k
    one_state taken retaken Disputed Open a b h k = absurd k
    one_state taken retaken (Woven m) Whole a b h k = absurd (none_not_only check versions others same b h.0 k)
    one_state taken retaken (Woven m) Disputed a b h k = absurd (none_not_two check versions others same h.0 k.0)
    one_state taken retaken (Woven m) (Woven n) a b h k =
        let same_weave : woven a m ≡ woven b n = one_weave (woven a m) (woven b n) h.2 k.2 in (cc, λ reason. cc)
    one_state taken retaken (Woven m) Missing a b h k = absurd (woven_not_missing a m h.2 (k.1 h.1))
    one_state taken retaken (Woven m) Alone a b h k = absurd k
    one_state taken retaken (Woven m) Agreed a b h k = absurd k
    one_state taken retaken (Woven m) Open a b h k = absurd k
    one_state taken retaken Missing Whole a b h k = absurd (none_not_only check versions others same b h.0 k)
    one_state taken retaken Missing Disputed a b h k = absurd (none_not_two check versions others same h.0 k.0)
    one_state taken retaken Missing (Woven n) a b h k = absurd (missing_not_woven b n (h.1 k.1) k.2)
    one_state taken retaken Missing Missing a b h k = (refl, same_taken Missing taken retaken a b refl h.2 k.2)
    one_state taken retaken Missing Alone a b h k = absurd k
    one_state taken retaken Missing Agreed a b h k = absurd k
    one_state taken retaken Missing Open a b h k = absurd k
    one_state taken retaken Alone t a b h k = absurd h
    one_state taken retaken Agreed t a b h k = absurd h
    one_state taken retaken Open t a b h k = absurd h

-- what two mends have in common: all, where they are good or the same version was taken
record IsOneMend (reason : Type 0) (one other : MendedValue) : Type 0 where
  state : one.state ≡ other.state
  parts : one.parts ≡ other.parts
  bytes : reason → one.bytes ≡ other.bytes

same_checked : (check : Check) (versions others : List (List ℕ)) → HasSameMembers versions others → (from other_from : List ℕ) (one other : MendedValue)
    → IsCheckedMend check versions from one → IsCheckedMend check others other_from other
    → IsOneMend ((is_good one.state ≡ true) ⊎ (from ≡ other_from)) one other
same_checked check versions others same from other_from one other h k =
    let stand = one_state check versions others same versions others same from other_from one.state other.state one.bytes other.bytes h.stands k.stands in
    record { state = stand.0; parts = h.none ∙ sym k.none; bytes = stand.1 }

-- ---- elements

module _ (versions others : List (List ℕ)) (same : HasSameMembers versions others) (from other_from : List ℕ) (parts : List Part) (one other : MendedValue)
    (h : IsElementMend versions from parts one) (k : IsElementMend others other_from parts other) where
  -- where the one is whole in all its versions, so is the other
  whole_too : IsWholeInAll versions one → IsWholeInAll others other × (one.bytes ≡ other.bytes)
  whole_too all =
      let then =
      whole_then Element versions others same (improved versions parts other.parts) (improved others parts other.parts)
      (fallback other_from parts other.parts) one.bytes other.bytes other.state
      (subst (ElementStands versions from parts one.parts one.bytes) all.0 h.stands) k.stands in (
        (sym then.0, subst (IsOnly (Contains others)) then.1 (all_as versions others same one.bytes all.1)),
        then.1,
      )

  -- where the same version is taken, the fallback is the same
  same_reason : (mends : List PartValue) → (is_good one.state ≡ true) ⊎ (from ≡ other_from)
      → (is_good one.state ≡ true) ⊎ (fallback from parts mends ≡ fallback other_from parts mends)
  same_reason mends (inl good) = inl good
  same_reason mends (inr taken) = inr (ap (λ z. fallback z parts mends) taken)

  each_mended : ArePartMends versions parts one.parts → ArePartMends others parts other.parts
      → IsOneMend ((is_good one.state ≡ true) ⊎ (from ≡ other_from)) one other
  each_mended are others_are =
      let mends : one.parts ≡ other.parts = one_parts versions others parts one.parts other.parts same are others_are in
      let stand = one_state Element versions others same (improved versions parts other.parts) (improved others parts other.parts)
      (improved_as versions others parts other.parts same) (fallback from parts other.parts) (fallback other_from parts other.parts)
      one.state other.state one.bytes other.bytes
      (subst (λ ms. ElementStands versions from parts ms one.bytes one.state) mends h.stands) k.stands in
      record { state = stand.0; parts = mends; bytes = λ reason. stand.1 (same_reason other.parts reason) }

same_elements : (versions others : List (List ℕ)) → HasSameMembers versions others → (from other_from : List ℕ) (parts : List Part) (one other : MendedValue)
    → IsElementMend versions from parts one → IsElementMend others other_from parts other
    → IsOneMend ((is_good one.state ≡ true) ⊎ (from ≡ other_from)) one other
same_elements versions others same from other_from parts one other h k = elim h.mends [
  | inl all ↦
      let too = whole_too versions others same from other_from parts one other h k all.0 in
      elim k.mends [
        | inl others_all ↦ record {
          state = all.0.0 ∙ sym too.0.0;
          parts = all.1 ∙ sym others_all.1;
          bytes = λ reason. too.1;
        }
        | inr each ↦ absurd (each.0 too.0)
      ]
  | inr each ↦ elim k.mends [
    | inl others_all ↦
        absurd (each.0 (whole_too others versions (same_back versions others same) other_from from parts other one k h others_all.0).0)
    | inr others_each ↦ each_mended versions others same from other_from parts one other h k each.1 others_each.1
  ]
]

-- ---- frames

pub settled_given : (splice : SplicedValue) → IsFrameSettled splice → IsGivenBack splice
settled_given splice h = (h.0, λ k d lt. subst IsSettledOrWoven (sym (h.1 k d lt)) tt)

one_frame_state : (splice : SplicedValue) (s t : State) → FrameStands splice s → FrameStands splice t → s ≡ t
one_frame_state splice Whole Whole h k = refl
one_frame_state splice Whole (Woven n) h k = absurd (k.1 h)
one_frame_state splice Whole Missing h k = absurd (k (settled_given splice h))
one_frame_state splice (Woven m) Whole h k = absurd (h.1 k)
one_frame_state splice (Woven m) (Woven n) h k = ap Woven (h.2 ∙ sym k.2)
one_frame_state splice (Woven m) Missing h k = absurd (k h.0)
one_frame_state splice Missing Whole h k = absurd (h (settled_given splice k))
one_frame_state splice Missing (Woven n) h k = absurd (h k.0)
one_frame_state splice Missing Missing h k = refl
one_frame_state splice Disputed t h k = absurd h
one_frame_state splice Alone t h k = absurd h
one_frame_state splice Agreed t h k = absurd h
one_frame_state splice Open t h k = absurd h
one_frame_state splice Whole Disputed h k = absurd k
one_frame_state splice Whole Alone h k = absurd k
one_frame_state splice Whole Agreed h k = absurd k
one_frame_state splice Whole Open h k = absurd k
one_frame_state splice (Woven m) Disputed h k = absurd k
one_frame_state splice (Woven m) Alone h k = absurd k
one_frame_state splice (Woven m) Agreed h k = absurd k
one_frame_state splice (Woven m) Open h k = absurd k
one_frame_state splice Missing Disputed h k = absurd k
one_frame_state splice Missing Alone h k = absurd k
one_frame_state splice Missing Agreed h k = absurd k
one_frame_state splice Missing Open h k = absurd k

same_frames : (versions others : List (List ℕ)) → HasSameMembers versions others → (one other : MendedValue) → IsFrameMend versions one
    → IsFrameMend others other → one ≡ other
same_frames versions others same one other h k =
    let splice : h.splice ≡ k.splice = same_copies_splice versions others h.splice k.splice same h.is_splice k.is_splice in
    same_value one other (one_frame_state k.splice one.state other.state (subst (λ z. FrameStands z one.state) splice h.stands) k.stands)
    (h.bytes ∙ ap (λ (z : SplicedValue). z.payload) splice ∙ sym k.bytes) (h.alone ∙ ap (λ (z : SplicedValue). spliced z ∷ []) splice ∙ sym k.alone)

-- ---- bytes without a checksum

-- the one version is the only one
pub only_alone : (versions : List (List ℕ)) (bytes : List ℕ) → versions ≡ bytes ∷ [] → IsOnly (Contains versions) bytes
only_alone versions bytes is =
    subst (λ vs. IsOnly (Contains vs) bytes) (sym is) (record { there = (0, omega arith, refl); others = λ other there. alone bytes other there })

module _ (versions others : List (List ℕ)) (same : HasSameMembers versions others) (from other_from a b : List ℕ) where
  -- all have one member
  agreed : IsOnly (Contains versions) a → IsOnly (Contains others) b → a ≡ b
  agreed h k = k.others a ((same a).0 h.there)

  agreed_not_open : IsOnly (Contains versions) a → IsOfTwo (Contains others) → ⊥
  agreed_not_open h k = k.differ (h.others k.one ((same k.one).1 k.one_there) ∙ sym (h.others k.other ((same k.other).1 k.other_there)))

  open_not_agreed : IsOfTwo (Contains versions) → IsOnly (Contains others) b → ⊥
  open_not_agreed h k = h.differ (k.others h.one ((same h.one).0 h.one_there) ∙ sym (k.others h.other ((same h.other).0 h.other_there)))

  one_plain : (s t : State) → PlainStands versions from a s → PlainStands others other_from b t
      → ((s ≡ t) ⊎ (IsUnanimous s × IsUnanimous t)) × ((is_good s ≡ true) ⊎ (s ≡ Alone) ⊎ (from ≡ other_from) → a ≡ b) × (length versions ≡ length others → s ≡ t)
  one_plain Alone Alone h k = (inl refl, λ reason. agreed (only_alone versions a h) (only_alone others b k), λ many. refl)
  one_plain Alone Agreed h k = (
    inr (tt, tt),
    λ reason. agreed (only_alone versions a h) k.1,
    λ many. let one : length versions ≡ 1 = ap length h in let more = k.0 in absurd (omega arith),
  )
  one_plain Alone Open h k = absurd (agreed_not_open (only_alone versions a h) k.0)
  one_plain Agreed Alone h k = (
    inr (tt, tt),
    λ reason. agreed h.1 (only_alone others b k),
    λ many. let one : length others ≡ 1 = ap length k in let more = h.0 in absurd (omega arith),
  )
  one_plain Agreed Agreed h k = (inl refl, λ reason. agreed h.1 k.1, λ many. refl)
  one_plain Agreed Open h k = absurd (agreed_not_open h.1 k.0)
  one_plain Open Alone h k = absurd (open_not_agreed h.0 (only_alone others b k))
  one_plain Open Agreed h k = absurd (open_not_agreed h.0 k.1)
  one_plain Open Open h k = (
    inl refl,
    λ reason. elim reason [
      | inl good ↦ absurd (cc)
      | inr rest ↦ elim rest [ inl is_alone ↦ absurd (cc) | inr taken ↦ h.1 ∙ taken ∙ sym k.1 ]
    ],
    λ many. refl,
  )
  one_plain Whole t h k = absurd h
  one_plain Disputed t h k = absurd h
  one_plain (Woven count) t h k = absurd h
  one_plain Missing t h k = absurd h
  one_plain Alone Whole h k = absurd k
  one_plain Alone Disputed h k = absurd k
  one_plain Alone (Woven count) h k = absurd k
  one_plain Alone Missing h k = absurd k
  one_plain Agreed Whole h k = absurd k
  one_plain Agreed Disputed h k = absurd k
  one_plain Agreed (Woven count) h k = absurd k
  one_plain Agreed Missing h k = absurd k
  one_plain Open Whole h k = absurd k
  one_plain Open Disputed h k = absurd k
  one_plain Open (Woven count) h k = absurd k
  one_plain Open Missing h k = absurd k

-- ---- all kinds

-- bytes with a checksum of their own are not alone
checked_good : (kind : Kind) (check : Check) (versions tried : List (List ℕ)) (taken bytes : List ℕ) (s : State) (reason : Type 0) → (kind ≡ Frame → ⊥)
    → StandsBy check versions tried taken bytes s → (is_good s ≡ true) ⊎ (s ≡ Alone) ⊎ (kind ≡ Frame) → (is_good s ≡ true) ⊎ reason
checked_good kind check versions tried taken bytes s reason not is (inl good) = inl good
checked_good kind check versions tried taken bytes s reason not is (inr (inl is_alone)) = absurd (subst (StandsBy check versions tried taken bytes) is_alone is)
checked_good kind check versions tried taken bytes s reason not is (inr (inr frame)) = absurd (not frame)

-- bytes without a checksum are no frame
plain_good : (s : State) (reason : Type 0) → (is_good s ≡ true) ⊎ (s ≡ Alone) ⊎ (Plain ≡ Frame) → (is_good s ≡ true) ⊎ (s ≡ Alone) ⊎ reason
plain_good s reason (inl good) = inl good
plain_good s reason (inr (inl is_alone)) = inr (inl is_alone)
plain_good s reason (inr (inr frame)) = absurd (cc)

alike : (kind : Kind) (versions others : List (List ℕ)) (from other_from : List ℕ) (parts : List Part) (one other : MendedValue)
    → HasSameMembers versions others → IsMendOf kind versions from parts one → IsMendOf kind others other_from parts other → IsSameMend kind one other
alike Frame versions others from other_from parts one other same h k =
    let equal : one ≡ other = same_frames versions others same one other h k in
    record {
      state = inl (ap (λ (z : MendedValue). z.state) equal);
      parts = ap (λ (z : MendedValue). z.parts) equal;
      bytes = λ reason. ap (λ (z : MendedValue). z.bytes) equal;
    }
alike Crc32 versions others from other_from parts one other same h k =
    let element = same_elements versions others same from other_from parts one other h k in
    record {
      state = inl element.state;
      parts = element.parts;
      bytes = λ reason. element.bytes
          (checked_good Crc32 Element versions (improved versions parts one.parts) (fallback from parts one.parts) one.bytes one.state (from ≡ other_from)
          (λ frame. absurd (cc)) h.stands reason);
    }
alike Record versions others from other_from parts one other same h k =
    let checked = same_checked checks.Record versions others same from other_from one other h k in
    record {
      state = inl checked.state;
      parts = checked.parts;
      bytes = λ reason. checked.bytes
          (checked_good Record checks.Record versions versions from one.bytes one.state (from ≡ other_from) (λ frame. absurd (cc)) h.stands reason);
    }
alike Flac versions others from other_from parts one other same h k =
    let checked = same_checked checks.Flac versions others same from other_from one other h k in
    record {
      state = inl checked.state;
      parts = checked.parts;
      bytes = λ reason. checked.bytes
          (checked_good Flac checks.Flac versions versions from one.bytes one.state (from ≡ other_from) (λ frame. absurd (cc)) h.stands reason);
    }
alike Plain versions others from other_from parts one other same h k =
    let plain = one_plain versions others same from other_from one.bytes other.bytes one.state other.state h.stands k.stands in
    record {
      state = plain.0;
      parts = h.none ∙ sym k.none;
      bytes = λ reason. plain.1 (plain_good one.state (from ≡ other_from) reason);
    }

all : (kind : Kind) (versions others : List (List ℕ)) (from : List ℕ) (parts : List Part) (one other : MendedValue) → HasSameMembers versions others
    → length versions ≡ length others → IsMendOf kind versions from parts one → IsMendOf kind others from parts other → one ≡ other
all Frame versions others from parts one other same many h k = same_frames versions others same one other h k
all Crc32 versions others from parts one other same many h k =
    let element = same_elements versions others same from from parts one other h k in
    same_value one other element.state (element.bytes (inr refl)) element.parts
all Record versions others from parts one other same many h k =
    let checked = same_checked checks.Record versions others same from from one other h k in
    same_value one other checked.state (checked.bytes (inr refl)) checked.parts
all Flac versions others from parts one other same many h k =
    let checked = same_checked checks.Flac versions others same from from one other h k in
    same_value one other checked.state (checked.bytes (inr refl)) checked.parts
all Plain versions others from parts one other same many h k =
    let plain = one_plain versions others same from from one.bytes other.bytes one.state other.state h.stands k.stands in
    same_value one other (plain.2 many) (plain.1 (inr (inr refl))) (h.none ∙ sym k.none)

pub same_versions_mend : SameVersionsMend
same_versions_mend = record { alike = alike; all = all }
