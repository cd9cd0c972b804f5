use Rattle.std.proofs.Common.{◌≡◌, ◌<◌, ◌*◌, ℕ, List, Vec, Global, length, map, arith, sym, ◌∙◌, subst}
use Rattle.std.proofs.lemmas.Bool.{false≢true, ltb-true, lt-ltb, eqb-true, eq-eqb}
use Rattle.ffv1_range.specs.Tiles.{GridValue, grid_of, plane_count, plane_rect}
use Rattle.ffv1_plane.specs.Picture.{samples_of}
use Rattle.ffv1_vectors.proofs.FrameSteps.{three_planes, one_plane}
use Rattle.ffv1_vectors.proofs.frame.fits_tile.Goals as goal
use Rattle.ffv1_vectors.proofs.frame.fits_tile.Goals.{then-has_chroma, else-has_chroma, then-spec-sets, else-spec-sets, then-spec-sets-2, else-spec-sets-2}

-- each plane has the size of a tile's
abbrev AreSized : ℕ → GridValue → List (Vec ℕ Global) → Type 0
AreSized tile grid planes =
    (plane : ℕ) → plane < length planes
    → length (samples_of (map (λ samples. samples.items) planes) plane) ≡ (plane_rect grid tile plane).w * (plane_rect grid tile plane).h

pub returns-then-len-count : goal.returns-then-len-count
returns-then-len-count c =
    let spec = c.args.spec.now in
    let grid = c.grid.ensures in
    let planes = c.deref.ensures.value in
    let counted : c.if-has_chroma.count ≡ plane_count (grid_of c.args.setup.now) =
    elim c.if-has_chroma.branch [
      | then-has_chroma w ↦ three_planes c.args.setup.now _ _ w.count-is c.has_chroma.ensures w.if-has_chroma.true
      | else-has_chroma w ↦ one_plane c.args.setup.now _ _ w.count-is c.has_chroma.ensures w.if-has_chroma.false
    ] in
    elim c.if-spec-sets-2.branch [
      | then-spec-sets-2 w ↦ elim c.if-spec-sets.branch [
        | then-spec-sets u ↦
            let chroma = ltb-true _ _ (sym u.value-is ∙ w.if-spec-sets-2.true) in
            let count = eqb-true _ _ (sym w.value-is ∙ c.if-len-count.true) in (
              λ yes. record {
                luma_table = omega (arith, u.if-spec-sets.true, c.sets.ensures);
                chroma_table = omega (arith, chroma, u.sets-then-spec-sets.ensures);
                count = omega (arith, count, w.len.ensures, spec.planes.ok.0, counted);
                sizes = subst (λ g. AreSized c.args.tile g spec.planes.items) grid (subst (AreSized c.args.tile c.grid.result) planes (c.fit_planes.ensures.0 yes));
              },
              λ fits. c.fit_planes.ensures.1
                  (subst (AreSized c.args.tile c.grid.result) (sym planes) (subst (λ g. AreSized c.args.tile g spec.planes.items) (sym grid) fits.sizes)),
            )
        | else-spec-sets u ↦ let luma = ltb-true _ _ (sym u.value-is ∙ w.if-spec-sets-2.true) in absurd (omega (arith, luma, u.if-spec-sets.false))
      ]
      | else-spec-sets-2 w ↦ absurd (false≢true (sym w.if-spec-sets-2.false ∙ sym w.value-is ∙ c.if-len-count.true))
    ]

pub returns-else-len-count : goal.returns-else-len-count
returns-else-len-count c =
    let spec = c.args.spec.now in
    let no = sym c.if-len-count.false in
    let counted : c.if-has_chroma.count ≡ plane_count (grid_of c.args.setup.now) =
    elim c.if-has_chroma.branch [
      | then-has_chroma w ↦ three_planes c.args.setup.now _ _ w.count-is c.has_chroma.ensures w.if-has_chroma.true
      | else-has_chroma w ↦ one_plane c.args.setup.now _ _ w.count-is c.has_chroma.ensures w.if-has_chroma.false
    ] in (
      λ yes. absurd (false≢true (no ∙ yes)),
      λ fits. elim c.if-spec-sets-2.branch [
        | then-spec-sets-2 w ↦
            let count = fits.count in
            w.value-is ∙ eq-eqb _ _ (omega (arith, count, w.len.ensures, spec.planes.ok.0, counted))
        | else-spec-sets-2 w ↦ elim c.if-spec-sets.branch [
          | then-spec-sets u ↦
              let chroma = fits.chroma_table in
              w.value-is ∙ u.value-is ∙ lt-ltb _ _ (omega (arith, chroma, u.sets-then-spec-sets.ensures))
          | else-spec-sets u ↦ let luma = fits.luma_table in absurd (omega (arith, luma, u.if-spec-sets.false, c.sets.ensures))
        ]
      ],
    )
