-- The recording of a union: that of each of the two in some frames, and its first slice tells where theirs do.
use Rattle.ffv1_hold.proofs.Common.{◌≡◌, ℕ, Bool, true, false, List, length, Option, Some, None, IfSome, refl, sym, ap, ◌∙◌, subst, arith, zero, suc, ordering_reverse, ordering_then, nat_cmp, nat_cmp_is, Ordering, Less, Equal, Greater, AreBytes, IsSliceOf, Reel, IsReel, IsOwnReel, IsRecordReel, in_frames, profile_record_reel, Entry, bytes_cmp, bytes_total, entry_cmp, IsEntryOf, IsHolding, Facts, part, both, FileEntry, AreOfOneRecord, reel_of_both, IsOfAnyFrames, IsNoKeyframe, CanBeFirst, KeepsNext, IsTurn, ◌==◌}
use Rattle.std.specs.Prelude.{if◌then◌else◌}
use Rattle.ffv1_range.specs.Frames.{HasKey}
use Rattle.ffv1_range.specs.declared.frames.Frames.{Frames}
use Rattle.ffv1_range.specs.declared.frames.Frames.TheVariants.{Ruled, Any}
use Rattle.ffv1_range.proofs.KeyLaws.{profile_key}
use Rattle.ffv1_slice.specs.Slices.{content_of}
use Rattle.ffv1_slice.proofs.KeyframeLaws.{keyframes_sort_last}
use Rattle.ffv1_holding.proofs.Reels.{any_reel_is, same_own}
use Rattle.ffv1_holding.proofs.OwnFrames.{any_entries}
use Rattle.ffv1_hold.proofs.HeldEntries.{holding-joined}
use Rattle.ffv1_hold.proofs.HeldFirsts.{profile_codes}
use Rattle.ffv1_hold.proofs.FirstSlices.{key_of}

-- ---- frames

-- a recording that is not of the profile is one in any frames
in_any : (r : Reel) → r.rules.is_profile ≡ false → r ≡ in_frames Any r
in_any r none = λ i. record {
  config = r.config;
  setup = r.setup;
  rules = record {
    is_profile = none i;
    has_codes = r.rules.has_codes;
    transitions = r.rules.transitions;
    has_alpha = r.rules.has_alpha;
    limits = r.rules.limits;
  };
}

-- two of one record and size that are both of the profile, or both not, are one
same_of_record : (a b : Reel) → AreOfOneRecord a b → a.rules.is_profile ≡ b.rules.is_profile → a ≡ b
same_of_record a b one profile = λ i. record {
  config = ap (λ (r : Reel). r.config) one i;
  setup = ap (λ (r : Reel). r.setup) one i;
  rules = record {
    is_profile = profile i;
    has_codes = ap (λ (r : Reel). r.rules.has_codes) one i;
    transitions = ap (λ (r : Reel). r.rules.transitions) one i;
    has_alpha = ap (λ (r : Reel). r.rules.has_alpha) one i;
    limits = ap (λ (r : Reel). r.rules.limits) one i;
  };
}

-- a record, a width and a height are those of one recording in any frames
pub one_record_of : (a b : Reel) → IsReel a → IsReel b → a.config ≡ b.config → a.setup.width ≡ b.setup.width → a.setup.height ≡ b.setup.height
    → AreOfOneRecord a b
one_record_of a b is also config width height =
    let own : is.0 ≡ also.0 = same_own a b is.0 also.0 is.1 also.1 config width height in
    ap (in_frames Any) is.1.1.1 ∙ ap (in_frames Any) own ∙ sym (ap (in_frames Any) also.1.1.1)

-- The recording in some of its frames.
abbrev pub IsInFrames : Reel → Reel → Type 0
IsInFrames q r = (frames : Frames) × (q ≡ in_frames frames r)

pub itself_in : (q r : Reel) → q ≡ r → IsInFrames q r
itself_in q r same = (Ruled, same)

-- which of the two the recording of both is
module _ (a b : Reel) where
  pub both_is_left : b.rules.is_profile ≡ true → reel_of_both a b ≡ a
  both_is_left profile = ap (λ p. if p then a else b) profile

  pub both_is_right : b.rules.is_profile ≡ false → reel_of_both a b ≡ b
  both_is_right other = ap (λ p. if p then a else b) other

  module _ (one : AreOfOneRecord a b) where
    left_by : (p : Bool) → b.rules.is_profile ≡ p → IsInFrames (reel_of_both a b) a
    left_by true profile = itself_in _ a (both_is_left profile)
    left_by false other = (Any, both_is_right other ∙ in_any b other ∙ sym one)

    pub in_left : IsInFrames (reel_of_both a b) a
    in_left = left_by b.rules.is_profile refl

    right_by : (p o : Bool) → b.rules.is_profile ≡ p → a.rules.is_profile ≡ o → IsInFrames (reel_of_both a b) b
    right_by false o other also = itself_in _ b (both_is_right other)
    right_by true true profile also = itself_in _ b (both_is_left profile ∙ same_of_record a b one (also ∙ sym profile))
    right_by true false profile also = (Any, both_is_left profile ∙ in_any a also ∙ one)

    pub in_right : IsInFrames (reel_of_both a b) b
    in_right = right_by b.rules.is_profile a.rules.is_profile refl refl

    pub both_config : length (reel_of_both a b).config ≡ length a.config
    both_config = ap (λ (r : Reel). length r.config) in_left.1

-- what is held of a recording is held of it in some frames
pub holding_in : (q r : Reel) (f : Facts) → IsInFrames q r → IsHolding (part r f) → IsHolding (part q f)
holding_in q r f (Ruled, same) is = subst (λ (x : Reel). IsHolding (part x f)) (sym same) is
holding_in q r f (Any, same) is =
    let moved : IsHolding (part (in_frames Any r) f) =
    record {
      reel = any_reel_is r is.reel;
      slices = any_entries r f.0 is.slices;
      origins_held = is.origins_held;
      digests_whole = is.digests_whole;
    } in
    subst (λ (x : Reel). IsHolding (part x f)) (sym same) moved

pub holding_both : (a b : Reel) (f g : Facts) → AreOfOneRecord a b → IsHolding (part a f) → IsHolding (part b g) → IsHolding (part (reel_of_both a b) (both f g))
holding_both a b f g one left right =
    let q = reel_of_both a b in
    holding-joined (part q f) (part q g) refl (holding_in q a f (in_left a b one) left) (holding_in q b g (in_right a b one) right)

-- ---- the first slice of the union

-- an entry that stands before one of tile 0 is of tile 0, and its bytes come first
before_first : (e f : Entry) → f.0 ≡ 0 → entry_cmp e f ≡ Less → (e.0 ≡ 0) × (bytes_cmp e.1 f.1 ≡ Less)
before_first e f first less = go e.0 refl
  where
    go : (t : ℕ) → e.0 ≡ t → (e.0 ≡ 0) × (bytes_cmp e.1 f.1 ≡ Less)
    go zero is =
        let tiles : nat_cmp e.0 f.0 ≡ Equal = sym (nat_cmp_is e.0 f.0 Equal (omega (arith, first, is))) in
        (is, sym (ap (λ o. ordering_then o (bytes_cmp e.1 f.1)) tiles) ∙ less)
    go (suc t) is =
        let tiles : nat_cmp e.0 f.0 ≡ Greater = sym (nat_cmp_is e.0 f.0 Greater (omega (arith, first, is))) in
        absurd (let greater = sym (ap (λ o. ordering_then o (bytes_cmp e.1 f.1)) tiles) ∙ less in cc)

-- no slice of keyframes stands before one between keyframes of the same record
none_before : (own wide : Reel) → IsRecordReel own → own.rules.is_profile ≡ true → IsOfAnyFrames wide → IsOwnReel own wide → (e f : Entry)
    → IsEntryOf own.rules e → AreBytes e.1 → AreBytes f.1 → (f.0 ≡ 0) × IsNoKeyframe wide.rules f.1 → entry_cmp e f ≡ Less → ⊥
none_before own wide is profile any of e f entry e_bytes f_bytes between less =
    let before = before_first e f between.0 less in
    let slice = subst (λ t. IsSliceOf own.rules e.1 (t == 0) t) before.0 entry.slice in
    let key : HasKey own.rules (content_of e.1) true = profile_key own.rules (content_of e.1) 0 profile slice.content in
    let none : HasKey own.rules (content_of f.1) false =
    key_of of.1.0 own.rules (content_of f.1) false (subst (λ (x : Reel). IsNoKeyframe x.rules f.1) of.1.1 between.1) in
    let first = keyframes_sort_last own.rules f.1 e.1 (profile_codes wide own of profile) f_bytes e_bytes none key in
    let other = bytes_total.antisymm e.1 f.1 ∙ ap ordering_reverse first in
    absurd (let both' = sym before.1 ∙ other in cc)

-- what is first of one input can be first, and is a slice whose bytes are bytes
pub record IsFirst (r : Reel) (next : Option FileEntry) : Type 0 where
  pub entry : IfSome next (λ e. IsEntryOf r.rules e.0)
  pub bytes : IfSome next (λ e. AreBytes e.0.1)
  pub keeps : KeepsNext r None next

first_entry : (r : Reel) (next : Option FileEntry) (e : FileEntry) → next ≡ Some e → IsFirst r next → CanBeFirst r e.0 × IsEntryOf r.rules e.0 × AreBytes e.0.1
first_entry r next e is first =
    let at = subst (λ (n : Option FileEntry). IsFirst r n) is first in
    (at.keeps, at.entry, at.bytes)

-- a slice of keyframes does not stand before what is first of the other input, where that is of any frames
not_before : (own wide : Reel) → IsReel own → own.rules.is_profile ≡ true → AreOfOneRecord own wide → IsOfAnyFrames wide → (next : Option FileEntry)
    → IsFirst wide next → (e : Entry) → IsEntryOf own.rules e → AreBytes e.1 → IfSome next (λ f. entry_cmp e f.0 ≡ Less) → ⊥
not_before own wide is profile one any None first e entry bytes less = first.keeps any
not_before own wide is profile one any (Some f) first e entry bytes less =
    let record' = profile_record_reel own is profile in
    none_before own wide record' profile any (record', (Any, in_any wide any.0 ∙ sym one)) e f.0 entry bytes first.bytes (first.keeps any) less

module _ (l r : Reel) (one : AreOfOneRecord l r) (l_is : IsReel l) (r_is : IsReel r) (ln rn : Option FileEntry) (left : IsFirst l ln) (right : IsFirst r rn) where
  -- where the union is in the frames of the left one
  of_left : r.rules.is_profile ≡ true → (e : FileEntry) (others : List (List ℕ)) (o : Ordering) → IsTurn ln rn e others o → CanBeFirst l e.0
  of_left profile e others Less turn any = (first_entry l ln e turn.0 left).0 any
  of_left profile e others Equal turn any = (first_entry l ln e turn.0 left).0 any
  of_left profile e others Greater turn any =
      let of = first_entry r rn e turn.0 right in
      absurd (not_before r l r_is profile (sym one) any ln left e.0 of.1 of.2 turn.2)

  of_right_less : (p : Bool) → l.rules.is_profile ≡ p → r.rules.is_profile ≡ false → (e : FileEntry) → ln ≡ Some e
      → IfSome rn (λ f. entry_cmp e.0 f.0 ≡ Less) → CanBeFirst r e.0
  of_right_less true profile other e at less any =
      let of = first_entry l ln e at left in
      absurd (not_before l r l_is profile one any rn right e.0 of.1 of.2 less)
  of_right_less false profile other e at less any =
      subst (λ (x : Reel). CanBeFirst x e.0) (same_of_record l r one (profile ∙ sym other)) (first_entry l ln e at left).0 any

  of_right : r.rules.is_profile ≡ false → (e : FileEntry) (others : List (List ℕ)) (o : Ordering) → IsTurn ln rn e others o → CanBeFirst r e.0
  of_right other e others Less turn = of_right_less l.rules.is_profile refl other e turn.0 turn.2
  of_right other e others Equal turn = (first_entry r rn (e.0, others) turn.1 right).0
  of_right other e others Greater turn = (first_entry r rn e turn.0 right).0

  by_frames_of : (p : Bool) → r.rules.is_profile ≡ p → (e : FileEntry) (others : List (List ℕ)) (o : Ordering) → IsTurn ln rn e others o
      → CanBeFirst (reel_of_both l r) e.0
  by_frames_of true profile e others o turn =
      subst (λ (x : Reel). CanBeFirst x e.0) (sym (both_is_left l r profile)) (of_left profile e others o turn)
  by_frames_of false other e others o turn =
      subst (λ (x : Reel). CanBeFirst x e.0) (sym (both_is_right l r other)) (of_right other e others o turn)

  -- the first slice of the union can be first
  pub union_first : (e : FileEntry) (others : List (List ℕ)) (o : Ordering) → IsTurn ln rn e others o → CanBeFirst (reel_of_both l r) e.0
  union_first = by_frames_of r.rules.is_profile refl

  -- and so can the end, where both have none
  pub union_end : ln ≡ None → rn ≡ None → IsOfAnyFrames (reel_of_both l r) → ⊥
  union_end left_end right_end any = go r.rules.is_profile refl
    where
      ended : (x : Reel) (n : Option FileEntry) → n ≡ None → IsFirst x n → IsOfAnyFrames x → ⊥
      ended x n is first = (subst (λ (m : Option FileEntry). IsFirst x m) is first).keeps

      go : (p : Bool) → r.rules.is_profile ≡ p → ⊥
      go true profile = ended l ln left_end left (subst IsOfAnyFrames (both_is_left l r profile) any)
      go false other = ended r rn right_end right (subst IsOfAnyFrames (both_is_right l r other) any)
