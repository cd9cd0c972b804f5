-- The states that are met from 128 on stay in their range, by the default table: computed over the whole table.
use Rattle.std.proofs.Common.{◌≡◌, ℕ, ◌<◌, Bool, true, false, leb, refl, arith, inl, inr}
use Rattle.std.specs.Prelude.{◌&&◌, ◌||◌, not}
use Rattle.std.proofs.lemmas.Bool.{agree_below_at, leb-true, and_parts, or_cases, le-leb, and_from, both_ways, not-true}
use Rattle.ffv1_range.specs.Transitions.{IsBitState, bit_state_after, standard_transitions, one_states_with, zero_states_of, default_states}

in_range : ℕ → Bool
in_range s = leb 8 s && leb s 248

stays : ℕ → Bool
stays s = not (in_range s) || (in_range (bit_state_after s true) && in_range (bit_state_after s false))

stays_always : (s : ℕ) → s < 256 → stays s ≡ true
unfolding in_range stays standard_transitions one_states_with zero_states_of default_states
stays_always s h = agree_below_at stays (λ _. true) 256 s refl h

from_test : (s : ℕ) → in_range s ≡ true → IsBitState s
unfolding in_range
from_test s e = (leb-true 8 s (and_parts (leb 8 s) (leb s 248) e).0, leb-true s 248 (and_parts (leb 8 s) (leb s 248) e).1)

to_test : (s : ℕ) → IsBitState s → in_range s ≡ true
unfolding in_range
to_test s h = and_from (leb 8 s) (leb s 248) (le-leb 8 s h.0) (le-leb s 248 h.1)

both_stay : (s : ℕ) → IsBitState s → IsBitState (bit_state_after s true) × IsBitState (bit_state_after s false)
unfolding stays
both_stay s h =
    elim (or_cases (not (in_range s)) (in_range (bit_state_after s true) && in_range (bit_state_after s false)) (stays_always s (omega arith))) [
      | inl outside ↦ absurd (both_ways (in_range s) (not-true (in_range s) outside) (to_test s h))
      | inr inside ↦
          let both = and_parts (in_range (bit_state_after s true)) (in_range (bit_state_after s false)) inside in
          (from_test (bit_state_after s true) both.0, from_test (bit_state_after s false) both.1)
    ]

pub bit_state-stays : (s : ℕ) (bit : Bool) → IsBitState s → IsBitState (bit_state_after s bit)
bit_state-stays s true h = (both_stay s h).0
bit_state-stays s false h = (both_stay s h).1
