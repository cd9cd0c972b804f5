use Rattle.std.proofs.Common.{◌≡◌, ◌-◌, ℕ, Bool, false, not, eqb, length, length-take, inl, inr, arith, ap, sym, ◌∙◌, subst}
use Rattle.std.specs.Prelude.{IsTrue, IfOk, Result, Ok, Err}
use Rattle.std.specs.Result.{result_eq}
use Rattle.std.proofs.lemmas.Bool.{false≢true}
use Rattle.std.proofs.lemmas.Bool.Decides.{eqb_tells}
use Rattle.ffv1_range.specs.Header.{IsHeadOf, header_limits}
use Rattle.ffv1_plane.specs.Picture.{IsPictureOf}
use Rattle.ffv1_range.specs.TileHeaders.{profile_rules}
use Rattle.ffv1_slice.specs.Slices.{IsSliceOf}
use Rattle.ffv1_vectors.specs.Frames.{asked_head, asked_planes}
use Rattle.ffv1_vectors.proofs.frame.reads_back.Goals as goal

-- what holds of the value that was read holds of the one that it equals
of_equal : {E : Type 0} (same : E → E → Bool) (P : ℕ → Type 0) (r : Result ℕ E) (t : ℕ) → IfOk r P → false ≡ not (result_eq eqb same r (Ok t)) → P t
of_equal same P (Ok x) t h e = elim (eqb_tells x t) [
  | inl p ↦ subst P p.1 h
  | inr p ↦ absurd (false≢true (e ∙ ap not p.0))
]
of_equal same P (Err f) t h e = absurd (false≢true e)

-- what holds at all holds where this is returned
where_ok : {E : Type 0} (X : Type 0) (r : Result Bool E) → X → IfOk r (λ same. IsTrue same → X)
where_ok X (Ok same) x = λ yes. x
where_ok X (Err f) x = tt

pub returns-then-ne : goal.returns-then-ne
returns-then-ne c = record {
  is_slice = λ yes. absurd (false≢true yes);
  head = λ yes. absurd (false≢true yes);
  picture = λ yes. absurd (false≢true yes);
}

pub content_of-content-requires : goal.content_of-content-requires
content_of-content-requires c =
    (of_equal _ (IsSliceOf (profile_rules c.args.setup.now) c.args.slice.now (eqb c.args.tile 0)) c.read_slice.result c.args.tile c.read_slice.ensures.found
    (sym c.if-ne.false ∙ c.ne.ensures)).framed.footer

pub returns-then-not-has_head : goal.returns-then-not-has_head
returns-then-not-has_head c = record {
  is_slice = λ yes. absurd (false≢true yes);
  head = λ yes. absurd (false≢true yes);
  picture = λ yes. absurd (false≢true yes);
}

pub has_picture-requires-clause-tile : goal.has_picture-requires-clause-tile
has_picture-requires-clause-tile c = c.requires.tile

pub has_picture-requires-clause-short : goal.has_picture-requires-clause-short
has_picture-requires-clause-short c =
    omega (arith, ap length c.content_of-content.ensures, length-take (length c.args.slice.now - 8) c.args.slice.now, c.requires.short)

pub returns : goal.returns
returns c =
    let setup = c.args.setup.now in
    let tile = c.args.tile in
    let spec = c.args.spec.now in record {
      is_slice = where_ok _ c.has_picture.result (of_equal _ (IsSliceOf (profile_rules setup) c.args.slice.now (eqb tile 0)) c.read_slice.result tile
          c.read_slice.ensures.found (sym c.if-ne.false ∙ c.ne.ensures));
      head = where_ok _ c.has_picture.result
          (subst (λ bytes. (place : ℕ) × IsHeadOf (header_limits setup) bytes (eqb tile 0) (asked_head tile spec) place)
          c.content_of-content.ensures (c.has_head.ensures c.if-not-has_head.false));
      picture = subst (λ bytes. IfOk c.has_picture.result (λ same. IsTrue same → (spare_bits : ℕ)
          × IsPictureOf setup tile bytes (record { planes = asked_planes spec; spare_bits = spare_bits })))
          c.content_of-content.ensures c.has_picture.ensures;
    }
