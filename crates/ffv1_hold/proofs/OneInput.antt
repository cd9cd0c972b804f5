-- An input has one fault at most.
use Rattle.ffv1_hold.proofs.Common.{◌≡◌, ℕ, ◌≤◌, List, [], ◌∷◌, ◌++◌, length, drop, Option, Some, refl, sym, ap, ◌∙◌, subst, inl, inr, arith, append_assoc, length-append, take-append-drop, ◌⊎◌, take-append_seam, take-append-le, Consumes, file_limit, HoldFileFault, Refuses, StopsIn, IsPartOfFile, IsHoldingText, FileIsWhole, FileShows, IsOutside, IsFaultOf, Recordings}
use Rattle.ffv1_hold.specs.declared.file_fault.HoldFileFault.TheVariants as faults
use Rattle.ffv1_hold.proofs.FaultLaws.{text_none, text_whole}
use Rattle.ffv1_hold.proofs.Returned.{taken_front, taken_all}
use Rattle.ffv1_hold.proofs.OneFault.{one_fault}
use Rattle.ffv1_hold.proofs.Unfinished.{part_shows_none}

-- ---- the faults of an input, by their kind

-- a beginning within the limit shows it
record IsShown (c : Recordings) (input : List ℕ) (f : HoldFileFault) : Type 0 where
  seen : List ℕ
  rest : List ℕ
  split : input ≡ seen ++ rest
  shown : FileShows c f seen
  within : length seen ≤ file_limit

-- the whole input is unfinished
record EndsOff (c : Recordings) (input : List ℕ) (f : HoldFileFault) : Type 0 where
  is : f ≡ faults.Truncated
  unfinished : IsPartOfFile c input
  within : length input ≤ file_limit

-- what is unfinished passes the limit
record IsOverLimit (c : Recordings) (input : List ℕ) (f : HoldFileFault) : Type 0 where
  is : f ≡ faults.TooLong
  seen : List ℕ
  more : ℕ
  rest : List ℕ
  split : input ≡ seen ++ more ∷ rest
  unfinished : IsPartOfFile c seen
  at_limit : length seen ≡ file_limit

-- a text goes on
record IsAfterText (c : Recordings) (input : List ℕ) (f : HoldFileFault) : Type 0 where
  is : f ≡ faults.Trailing
  seen : List ℕ
  rest : List ℕ
  split : input ≡ seen ++ rest
  whole : IsHoldingText c seen
  within : length seen ≤ file_limit

abbrev Kinds : Recordings → List ℕ → HoldFileFault → Type 0
Kinds c input f = IsShown c input f ⊎ (EndsOff c input f ⊎ (IsOverLimit c input f ⊎ IsAfterText c input f))

shown_kind : (c : Recordings) (input : List ℕ) (f : HoldFileFault) (left : Option (List ℕ)) → StopsIn (FileShows c f) (Some input) left 0 → Kinds c input f
shown_kind c input f left r = grind (arith, taken_front)

goes_on : (input seen : List ℕ) (more : ℕ) (left : Option (List ℕ)) → Consumes (Some input) left (seen ++ more ∷ []) → (rest : List ℕ)
    × (input ≡ seen ++ more ∷ rest)
goes_on input seen more left taken = grind (arith, taken_front, append_assoc)

kind_of : (c : Recordings) (input : List ℕ) (f : HoldFileFault) (left : Option (List ℕ)) → (IsOutside f → ⊥)
    → Refuses (IsPartOfFile c) (FileIsWhole c) (FileShows c) (Some input) left 0 f → Kinds c input f
kind_of c input faults.Read left inside r = absurd (inside tt)
kind_of c input faults.Memory left inside r = absurd (inside tt)
kind_of c input faults.Write left inside r = absurd r
kind_of c input faults.OtherReel left inside r = absurd r
kind_of c input faults.Truncated left inside r =
    let all = taken_all input r.seen left r.taken r.at_end in
    inr (inl (record { is = refl; unfinished = subst (IsPartOfFile c) (sym all) r.unfinished; within = omega (arith, r.within, ap length all) }))
kind_of c input faults.TooLong left inside (inl r) = shown_kind c input faults.TooLong left r
kind_of c input faults.TooLong left inside (inr r) = grind (arith, goes_on)
kind_of c input faults.Trailing left inside r = grind (arith, goes_on)
kind_of c input faults.Magic left inside r = shown_kind c input faults.Magic left r
kind_of c input (faults.Setup k) left inside r = shown_kind c input (faults.Setup k) left r
kind_of c input faults.Tag left inside r = shown_kind c input faults.Tag left r
kind_of c input faults.Order left inside r = shown_kind c input faults.Order left r
kind_of c input faults.NotASlice left inside r = shown_kind c input faults.NotASlice left r

-- ---- two kinds at once

-- of two beginnings the shorter begins the other
begins : (a b x y : List ℕ) → a ++ x ≡ b ++ y → length a ≤ length b → b ≡ a ++ drop (length a) b
begins a b x y same few = cc (take-append-drop (length a) b, take-append-le (length a) b y few, take-append_seam a x)

-- no text begins what is unfinished
text_apart : (c : Recordings) (text s z : List ℕ) → IsHoldingText c text → s ≡ text ++ z → IsPartOfFile c s → ⊥
text_apart c text s z (h, is, reel, (v, stated, tells, spelled)) same part = text_whole c v h is reel stated tells z (subst (IsPartOfFile c) (same ∙ ap (λ q. q ++ z) spelled) part)

module _ (c : Recordings) (input : List ℕ) (f g : HoldFileFault) where
  shown_both : IsShown c input f → IsShown c input g → f ≡ g
  shown_both a b = one_fault c f g a.seen b.seen a.rest b.rest (sym a.split ∙ b.split) a.shown b.shown

  shown_not_cut : IsShown c input f → EndsOff c input g → ⊥
  shown_not_cut a b = part_shows_none c f input a.seen a.rest a.split b.unfinished a.shown

  shown_within : IsShown c input f → IsOverLimit c input g → ⊥
  shown_within a b =
      let end = b.at_limit in
      let few = a.within in
      part_shows_none c f b.seen a.seen _ (begins a.seen b.seen a.rest (b.more ∷ b.rest) (sym a.split ∙ b.split) (omega arith)) b.unfinished a.shown

  shown_before : IsShown c input f → IsAfterText c input g → ⊥
  shown_before a b =
      let h = b.whole in
      text_none c h.3.0 h.0 h.1 h.2 h.3.1 h.3.2 b.rest a.seen a.rest f (sym (ap (λ q. q ++ b.rest) h.3.3) ∙ sym b.split ∙ a.split) a.shown

  cut_within : EndsOff c input f → IsOverLimit c input g → ⊥
  cut_within a b = omega (arith, a.within, b.at_limit, ap length b.split, length-append b.seen (b.more ∷ b.rest))

  cut_before : EndsOff c input f → IsAfterText c input g → ⊥
  cut_before a b = text_apart c b.seen input b.rest b.whole b.split a.unfinished

  over_before : IsOverLimit c input f → IsAfterText c input g → ⊥
  over_before a b =
      let end = a.at_limit in
      let few = b.within in
      text_apart c b.seen a.seen _ b.whole (begins b.seen a.seen b.rest (a.more ∷ a.rest) (sym b.split ∙ a.split) (omega arith)) a.unfinished

pub one_input : (c : Recordings) (input : List ℕ) (f g : HoldFileFault) → IsFaultOf c input f → IsFaultOf c input g → f ≡ g
one_input c input f g (f_inside, (f_left, f_is)) (g_inside, (g_left, g_is)) = go (kind_of c input f f_left f_inside f_is) (kind_of c input g g_left g_inside g_is)
  where
    go : Kinds c input f → Kinds c input g → f ≡ g
    go (inl a) (inl b) = shown_both c input f g a b
    go (inl a) (inr (inl b)) = absurd (shown_not_cut c input f g a b)
    go (inl a) (inr (inr (inl b))) = absurd (shown_within c input f g a b)
    go (inl a) (inr (inr (inr b))) = absurd (shown_before c input f g a b)
    go (inr (inl a)) (inl b) = absurd (shown_not_cut c input g f b a)
    go (inr (inl a)) (inr (inl b)) = a.is ∙ sym b.is
    go (inr (inl a)) (inr (inr (inl b))) = absurd (cut_within c input f g a b)
    go (inr (inl a)) (inr (inr (inr b))) = absurd (cut_before c input f g a b)
    go (inr (inr (inl a))) (inl b) = absurd (shown_within c input g f b a)
    go (inr (inr (inl a))) (inr (inl b)) = absurd (cut_within c input g f b a)
    go (inr (inr (inl a))) (inr (inr (inl b))) = a.is ∙ sym b.is
    go (inr (inr (inl a))) (inr (inr (inr b))) = absurd (over_before c input f g a b)
    go (inr (inr (inr a))) (inl b) = absurd (shown_before c input g f b a)
    go (inr (inr (inr a))) (inr (inl b)) = absurd (cut_before c input g f b a)
    go (inr (inr (inr a))) (inr (inr (inl b))) = absurd (over_before c input g f b a)
    go (inr (inr (inr a))) (inr (inr (inr b))) = a.is ∙ sym b.is
