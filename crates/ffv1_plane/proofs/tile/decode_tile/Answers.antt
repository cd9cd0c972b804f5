use Rattle.std.proofs.Common.{◌≡◌, Result, Ok, Err, refl, sym, ap, ◌∙◌, inl, inr, ⊎_elim, arith, rules}
use Rattle.ffv1_plane.specs.declared.tile.TileFault.{TileFault}
use Rattle.ffv1_plane.specs.declared.tile.TileFault.TheVariants.{Code, Head}
use Rattle.ffv1_range.specs.declared.head.HeadFault.{HeadFault}
use Rattle.std.proofs.lemmas.Result.{err_from_is_err_and}
use Rattle.ffv1_range.proofs.Spelling.{same_ok}
use Rattle.ffv1_plane.proofs.OneStuck.{one_result}
use Rattle.ffv1_plane.proofs.Pictures.{one_reading_is, picture_is}
use Rattle.ffv1_plane.proofs.Stops.{planes_refused}
use Rattle.ffv1_plane.proofs.tile.decode_tile.Goals as goal

err_not_ok : {A E : Type 0} {P : Type 0} (fault : E) (a : A) → Err fault ≡ Ok a → P
err_not_ok fault a h = absurd cc

given_head : {A B : Type 0} (fault first : HeadFault) → ◌≡◌ {A = Result A HeadFault} (Err fault) (Err first)
    → ◌≡◌ {A = Result B TileFault} (Err (Head fault)) (Err (Head first))
given_head fault first h = cc

pub returns-in_err-head : goal.returns-in_err-head
returns-in_err-head c =
    let p = err_from_is_err_and c.from_residual.result c.from_residual.ensures.1 in
    rw (p.1, p.2)
    (record {
      ok = tt;
      found = λ picture is. err_not_ok _ _ (c.in_err-head.ensures.only is.head is.place is.is_head);
      head = λ fault first. given_head _ _ (c.in_err-head.ensures.fault ∙ first);
      other = λ head place is other. err_not_ok _ _ (c.in_err-head.ensures.only head place is);
      refused = inr (sym c.in_err-head.ensures.fault);
      stuck = λ fault plane y x is. err_not_ok _ _ (c.in_err-head.ensures.only is.head is.place is.is_head);
    })

pub returns-then-head-index : goal.returns-then-head-index
returns-then-head-index c = record {
  ok = tt;
  found = λ picture is.
      let same = same_ok (c.in_ok-head.head, c.in_ok-head.place) (is.head, is.place) (c.in_ok-head.ensures.only is.head is.place is.is_head) in
      absurd (let tile : c.in_ok-head.head.tile ≡ c.args.index = ap (λ z. z.0.tile) same ∙ is.of_tile in c.if-head-index.true tile);
  head = λ fault first. err_not_ok _ _ (sym (c.in_ok-head.ensures.fault ∙ first));
  other = λ head place is other. refl;
  refused = inr (c.in_ok-head.head, c.in_ok-head.place, c.in_ok-head.ensures.found, c.if-head-index.true);
  stuck = λ fault plane y x is.
      let same = same_ok (c.in_ok-head.head, c.in_ok-head.place) (is.head, is.place) (c.in_ok-head.ensures.only is.head is.place is.is_head) in
      absurd (let tile : c.in_ok-head.head.tile ≡ c.args.index = ap (λ z. z.0.tile) same ∙ is.of_tile in c.if-head-index.true tile);
}

pub returns-in_err-planes : goal.returns-in_err-planes
returns-in_err-planes c =
    let p = err_from_is_err_and c.from_residual-in_err-planes.result c.from_residual-in_err-planes.ensures.1 in
    let tile : c.in_ok-head.head.tile ≡ c.args.index = omega arith in
    let given = planes_refused c.args.setup.now c.args.index c.args.content.now c.in_ok-head.head c.in_ok-head.place c.new-bits.result.left
    c.in_ok-head.ensures.found tile c.new-bits.ensures.left _ c.in_err-planes.ensures.err in
    rw (p.1, p.2)
    (record {
      ok = tt;
      found = λ picture is. ⊎_elim (λ memory. memory) (λ refused. absurd (one_result.no_picture c.args.setup.now c.args.index c.args.content.now _ picture
          c.keeps_profile.ensures c.requires.tile refused is)) given;
      head = λ fault first. err_not_ok _ _ (sym (c.in_ok-head.ensures.fault ∙ first));
      other = λ head place is other.
          let same = same_ok (head, place) (c.in_ok-head.head, c.in_ok-head.place) (sym (c.in_ok-head.ensures.only head place is)) in
          absurd (other (ap (λ z. z.0.tile) same ∙ tile));
      refused = given;
      stuck = λ fault plane y x is. ⊎_elim (λ memory. inl memory) (λ refused. inr (one_result.one_fault c.args.setup.now c.args.index c.args.content.now _
          (Code fault plane y x) c.keeps_profile.ensures c.requires.tile refused is)) given;
    })

pub returns-clause-ok : goal.returns-clause-ok
returns-clause-ok c =
    let tile : c.in_ok-head.head.tile ≡ c.args.index = omega arith in
    picture_is c.args.setup.now c.args.index c.args.content.now c.in_ok-head.head c.in_ok-head.place c.new-bits.result.left c.decode_planes.new.bits.left _ _
    c.in_ok-head.ensures.found tile c.new-bits.ensures.left c.in_ok-planes.ensures.ok (search rules)

pub returns-clause-found : goal.returns-clause-found
returns-clause-found c = λ picture is.
    one_reading_is.pictures c.args.setup.now c.args.index c.args.content.now _ picture c.keeps_profile.ensures c.requires.tile (returns-clause-ok c) is

pub returns-clause-head : goal.returns-clause-head
returns-clause-head c = λ fault first. err_not_ok _ _ (sym (c.in_ok-head.ensures.fault ∙ first))

pub returns-clause-other : goal.returns-clause-other
returns-clause-other c = λ head place is other.
    let same = same_ok (head, place) (c.in_ok-head.head, c.in_ok-head.place) (sym (c.in_ok-head.ensures.only head place is)) in
    let tile : c.in_ok-head.head.tile ≡ c.args.index = omega arith in
    absurd (other (ap (λ z. z.0.tile) same ∙ tile))

pub returns-clause-refused : goal.returns-clause-refused
returns-clause-refused c = tt

pub returns-clause-stuck : goal.returns-clause-stuck
returns-clause-stuck c = λ fault plane y x is.
    absurd (one_result.no_picture c.args.setup.now c.args.index c.args.content.now (Code fault plane y x) _ c.keeps_profile.ensures c.requires.tile is
    (returns-clause-ok c))
