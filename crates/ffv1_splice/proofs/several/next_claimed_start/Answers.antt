use Rattle.ffv1_splice.proofs.Common.{◌≡◌, ◌++◌, ◌∷◌, [], ℕ, List, Option, Some, get_or, take, sym, subst, arith, inl, inr, Contains, Contains-append_cases, AreBytes, values_of, next_value, all_values, nowhere, alone}
use Rattle.ffv1_splice.proofs.SeveralSteps.{IsNext, next_kept, next_more}
use Rattle.ffv1_splice.proofs.several.next_claimed_start.Goals as goal
use Rattle.ffv1_splice.proofs.several.next_claimed_start.Goals.{in-Some, in_default}

-- one more copy of bytes
bytes_more : (copies : List (List ℕ)) (copy : List ℕ) → ((one : List ℕ) → Contains copies one → AreBytes one) → AreBytes copy
    → (one : List ℕ) → Contains (copies ++ copy ∷ []) one → AreBytes one
bytes_more copies copy all bytes one there = elim (Contains-append_cases copies (copy ∷ []) one there) [
  | inl before ↦ all one before
  | inr new ↦ subst AreBytes (sym (alone copy one new)) bytes
]

pub loop-copy-preserved : goal.loop-copy-preserved
loop-copy-preserved c =
    let copy : List ℕ = (get_or c.args.copies.now c.loop-copy.copy-index nowhere).now in
    let before : List (List ℕ) = take c.loop-copy.copy-index (values_of c.args.copies.now) in
    let more = next_value c.args.copies.now c.loop-copy.copy-index nowhere (omega arith) in
    let next = λ (next : Option ℕ) (is : c.match-claimed_from.next ≡ next) (h : IsNext (before ++ copy ∷ []) c.args.end c.args.from next).
    subst (λ copies. IsNext copies c.args.end c.args.from c.match-claimed_from.next) more
    (subst (IsNext (before ++ copy ∷ []) c.args.end c.args.from) (sym is) h) in
    record {
      next = elim c.match-claimed_from.branch [
        | in-Some w ↦
            next (Some w.lesser.result) w.next-is
            (next_more before copy c.args.end c.args.from c.loop-copy.next w.in-Some.start w.lesser.result w.in-Some.ensures.claim.0
            w.in-Some.ensures.claim.1 w.in-Some.ensures.claim.2 w.lesser.ensures c.loop-copy.invariant.next)
        | in_default w ↦
            next c.loop-copy.next w.next-is
            (next_kept before copy c.args.end c.args.from c.loop-copy.next w.in_default.ensures.claim c.loop-copy.invariant.next)
      ];
      bytes = subst (λ copies. (one : List ℕ) → Contains copies one → AreBytes one) more
          (bytes_more before copy c.loop-copy.invariant.bytes c.claimed_from.ensures.bytes);
    }

pub returns-clause-next : goal.returns-clause-next
returns-clause-next c =
    subst (λ copies. IsNext copies c.args.end c.args.from c.loop-copy.next) (all_values c.args.copies.now c.loop-copy.copy-index (omega arith))
    c.loop-copy.invariant.next
