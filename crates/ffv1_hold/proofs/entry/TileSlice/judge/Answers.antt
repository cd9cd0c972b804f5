use Rattle.ffv1_hold.proofs.Common.{◌≡◌, ℕ, List, ◌==◌, Option, Some, None, rules, arith, common_steps, refl, sym, ◌∙◌, subst, eq-eqb, true≢false, IsSliceOf, Entry, FileEntry, CanBeFirst, KeepsMagic}
use Rattle.ffv1_hold.proofs.entry.TileSlice.judge.Goals as goal

-- a slice of its tile would have been read as that
pub returns-then-ne-clause-err : goal.returns-then-ne-clause-err
returns-then-ne-clause-err c last same first = λ is.
    let tile = c.self.inside.tile in
    let own = subst (λ (e : Entry). IsSliceOf c.args.reel.now.rules e.1 (e.0 == 0) e.0) (sym c.self.view_is) is in
    let read = c.read_slice.ensures.only tile (subst (λ (bytes : List ℕ). IsSliceOf c.args.reel.now.rules bytes (tile == 0) tile) (sym c.deref.ensures.value) own) in
    let differs = rw (read, eq-eqb tile tile refl) at c.ne.ensures in
    absurd (let both = sym c.if-ne.true ∙ differs in cc)

pub returns-then-not-can_be_first-clause-err : goal.returns-then-not-can_be_first-clause-err
returns-then-not-can_be_first-clause-err c last same first =
    let r = c.args.reel.now in
    let tile = c.self.inside.tile in
    let e : Entry = (tile, c.deref-then-first.result.now) in
    let is : e ≡ c.args.self.now = (λ i. (tile, c.deref-then-first.ensures.value i)) ∙ c.self.view_is in
    let none : last ≡ None = first.0 (search rules) in
    let slice : IsSliceOf r.rules c.args.self.now.1 (c.args.self.now.0 == 0) c.args.self.now.0 = grind (arith, common_steps) in (
      slice,
      same.0 (search rules),
      λ keeps.
          let can : CanBeFirst r e =
          subst (CanBeFirst r) (sym is) (subst (λ (l : Option FileEntry). KeepsMagic r l (Some c.args.self.now)) none keeps) in
          let allowed = c.can_be_first.ensures.can.1 can in
          true≢false (sym allowed ∙ c.if-not-can_be_first.true),
    )
