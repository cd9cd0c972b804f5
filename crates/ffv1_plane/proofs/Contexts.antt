-- Each context has a state: the entries of a set's tables keep within its contexts.
use Rattle.std.proofs.Common.{◌≡◌, ◌≢◌, List, get_or, set, get_or-set_other, get_or-set_same, ap, sym, ◌∙◌, ⊎_elim, w16, w32, ℕ, zero, suc, ◌+◌, ◌<◌, ◌≤◌, length, ℤ, pos, negsuc, ◌+ℤ◌, ◌≤ℤ◌, neg_ℤ, nat_abs, arith, slice_index_or}
use mir.Val.{SFits, to_z, of_z}
use Rattle.std.proofs.lemmas.Int.{ints}
use Rattle.std.proofs.lemmas.Bool.{cases_lt}
use Rattle.ffv1_range.specs.Tables.{SetValue, HasContexts, HaveContexts}
use Rattle.ffv1_range.specs.Setup.{SetupValue, no_set, set_entry, set_contexts}
use Rattle.ffv1_plane.specs.Samples.{SamplesAbout, context_of, modular_difference}

has_contexts : (setup : SetupValue) (set : ℕ) → HaveContexts setup.sets → set < length setup.sets → HasContexts (slice_index_or setup.sets set no_set)
unfolding HaveContexts
has_contexts setup set h less = h set no_set less

low_of : (z : ℤ) (m n : ℕ) → nat_abs z ≤ m → m ≤ n → neg_ℤ (pos n) ≤ℤ z
low_of (pos k) m n h l = omega (arith, ints)
low_of (negsuc k) m n h l = omega (arith, ints)

high_of : (z : ℤ) (m n : ℕ) → nat_abs z ≤ m → m ≤ n → z ≤ℤ pos n
high_of (pos k) m n h l = omega (arith, ints)
high_of (negsuc k) m n h l = omega (arith, ints)

greatest_low : (set : SetValue) (h : HasContexts set) (table : ℕ) → table < 5 → h.greatest table ≤ 32767
greatest_low set h zero l = omega (arith, h.enough, h.few)
greatest_low set h (suc zero) l = omega (arith, h.enough, h.few)
greatest_low set h (suc (suc zero)) l = omega (arith, h.enough, h.few)
greatest_low set h (suc (suc (suc zero))) l = omega (arith, h.enough, h.few)
greatest_low set h (suc (suc (suc (suc zero)))) l = omega (arith, h.enough, h.few)
greatest_low set h (suc (suc (suc (suc (suc n))))) l = absurd (omega arith)

pub entry_low : (setup : SetupValue) (set table i : ℕ) → HaveContexts setup.sets → set < length setup.sets → table < 5
    → neg_ℤ (pos 32767) ≤ℤ set_entry setup set table i
entry_low setup set table i h less few =
    let c = has_contexts setup set h less in
    low_of (set_entry setup set table i) (c.greatest table) 32767 (c.within table i) (greatest_low _ c table few)

pub entry_high : (setup : SetupValue) (set table i : ℕ) → HaveContexts setup.sets → set < length setup.sets → table < 5 → set_entry setup set table i ≤ℤ pos 32767
entry_high setup set table i h less few =
    let c = has_contexts setup set h less in
    high_of (set_entry setup set table i) (c.greatest table) 32767 (c.within table i) (greatest_low _ c table few)

sum_of_two : (a b : ℤ) (m n : ℕ) → nat_abs a ≤ m → nat_abs b ≤ n → nat_abs (a +ℤ b) ≤ m + n
sum_of_two a b m n h k =
    let a_low = low_of a m m h (omega arith) in
    let a_high = high_of a m m h (omega arith) in
    let b_low = low_of b n n k (omega arith) in
    let b_high = high_of b n n k (omega arith) in
    within (a +ℤ b) (m + n) (omega (arith, ints)) (omega (arith, ints))
  where
    within : (z : ℤ) (l : ℕ) → neg_ℤ (pos l) ≤ℤ z → z ≤ℤ pos l → nat_abs z ≤ l
    within (pos i) l low high = omega (arith, ints)
    within (negsuc i) l low high = omega (arith, ints)

sum_of_five : (a b c d e : ℤ) (i j k l m : ℕ) → nat_abs a ≤ i → nat_abs b ≤ j → nat_abs c ≤ k → nat_abs d ≤ l → nat_abs e ≤ m
    → nat_abs (a +ℤ b +ℤ c +ℤ d +ℤ e) ≤ i + j + k + l + m
sum_of_five a b c d e i j k l m p q r s t =
    sum_of_two (a +ℤ b +ℤ c +ℤ d) e (i + j + k + l) m (sum_of_two (a +ℤ b +ℤ c) d (i + j + k) l
    (sum_of_two (a +ℤ b) c (i + j) k (sum_of_two a b i j p q) r) s) t

pub context_fits : (setup : SetupValue) (set : ℕ) (n : SamplesAbout) → HaveContexts setup.sets → set < length setup.sets
    → nat_abs (context_of (set_entry setup set) n) < set_contexts setup set
unfolding context_of
context_fits setup set n h less =
    let c = has_contexts setup set h less in
    let all : nat_abs (context_of (set_entry setup set) n) ≤ c.greatest 0 + c.greatest 1 + c.greatest 2 + c.greatest 3 + c.greatest 4 =
    sum_of_five (set_entry setup set 0 (modular_difference n.left n.top_left)) (set_entry setup set 1 (modular_difference n.top_left n.top))
    (set_entry setup set 2 (modular_difference n.top n.top_right))
    (set_entry setup set 3 (modular_difference n.left_of_left n.left)) (set_entry setup set 4 (modular_difference n.top_of_top n.top))
    (c.greatest 0) (c.greatest 1) (c.greatest 2) (c.greatest 3) (c.greatest 4) (c.within 0 _) (c.within 1 _) (c.within 2 _) (c.within 3 _) (c.within 4 _) in
    let enough = c.enough in
    omega arith

-- an entry that is kept in 16 bits
pub entry_fits : (e : ℤ) → neg_ℤ (pos 32767) ≤ℤ e → e ≤ℤ pos 32767 → SFits w16 (to_z w32 (of_z w32 e))
entry_fits e low high = omega (arith, ints)

pub kept_entry : (r z e : ℤ) → r ≡ to_z w16 (of_z w16 z) → z ≡ e → neg_ℤ (pos 32767) ≤ℤ e → e ≤ℤ pos 32767 → to_z w32 (of_z w32 r) ≡ e
kept_entry r z e is kept low high = omega (arith, ints)

pub stored_entry : (z e : ℤ) → z ≡ e → neg_ℤ (pos 32767) ≤ℤ e → e ≤ℤ pos 32767 → to_z w16 (of_z w16 (to_z w32 (of_z w32 z))) ≡ e
stored_entry z e is low high = omega (arith, ints)

-- one more entry is kept
pub kept_more : (kept : List ℤ) (i : ℕ) (v : ℤ) (entry : ℕ → ℤ) → i < length kept → ((k : ℕ) → k < i → get_or kept k (pos 0) ≡ entry k) → v ≡ entry i
    → (k : ℕ) → k < i + 1 → get_or (set kept i v) k (pos 0) ≡ entry k
kept_more kept i v entry there before is k less = ⊎_elim
    (λ below. let other : k ≢ i = omega arith in get_or-set_other kept i k v (pos 0) other ∙ before k below)
    (λ last. let same : k ≡ i = omega arith in ap (λ j. get_or (set kept i v) j (pos 0)) same ∙ get_or-set_same kept i v (pos 0) there ∙ is
    ∙ ap entry (sym same))
    (cases_lt k i)
