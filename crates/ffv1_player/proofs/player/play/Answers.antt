use Rattle.std.proofs.Common.{◌≡◌, ◌⊎◌, ◌≤◌, List, length, sym, ap, ◌∙◌, subst, arith}
use Rattle.std.proofs.lemmas.List.{length-map}
use Rattle.std.proofs.lemmas.Result.{err_from_is_err_and}
use Rattle.ffv1_layout.specs.Layout.{headers_of, contents_of}
use Rattle.ffv1_layout.specs.declared.layout.PlacedSlice.{PlacedSlice}
use Rattle.ffv1_player.specs.Frames.{is_key, BeginsWith, HavePictures}
use Rattle.ffv1_player.specs.Players.{left_values, last_value}
use Rattle.ffv1_player.specs.Inner.Decoding.{CanBegin, AreDrawn, IsContentFault}
use Rattle.ffv1_player.specs.Fitting.{FitLeft}
use Rattle.ffv1_player.specs.declared.before.LeftSlice.{LeftSlice}
use Rattle.ffv1_player.specs.declared.fault.SamplesFault.TheVariants.{Memory}
use Rattle.ffv1_player.proofs.Beginnings.{count_of_contents, can_begin, have_pictures, undecoded, fit_left}
use Rattle.ffv1_player.proofs.player.play.Goals as goal

-- what holds of lists that were read through references
through : (P : List PlacedSlice → List LeftSlice → Type 0) (placed placed' : List PlacedSlice) (before before' : List LeftSlice) → placed' ≡ placed
    → before' ≡ before → P placed' before' → P placed before
through P placed placed' before before' same equal h = subst (P placed) equal (subst (λ l. P l before') same h)

pub decode_slices-requires : goal.decode_slices-requires
decode_slices-requires c =
    let r = c.args.recording.now in
    let last = last_value c.args.last in
    let placed = c.in_ok-placed.placed.items in
    let before = c.in_ok-before.before.items in
    let begins = subst (λ items. BeginsWith r (headers_of items) last (left_values before)) c.deref.ensures.value c.in_ok-before.ensures.ok in
    through (λ placed before. CanBegin r (contents_of placed) (headers_of placed) (left_values before)) _ placed _ before (sym c.deref-2.ensures.value)
    (sym c.deref-3.ensures.value)
    (can_begin r c.args.payload.now placed c.in_ok-placed.ensures.ok last (left_values before) c.in_ok-placed.ensures.short c.requires begins)

pub returns-in_err-frame-clause-err : goal.returns-in_err-frame-clause-err
returns-in_err-frame-clause-err c =
    let r = c.args.recording.now in
    let last = last_value c.args.last in
    let placed = c.in_ok-placed.placed.items in
    let before = c.in_ok-before.before.items in
    let begins = subst (λ items. BeginsWith r (headers_of items) last (left_values before)) c.deref.ensures.value c.in_ok-before.ensures.ok in
    let fault = c.in_err-frame.field-0.0 in
    let p = err_from_is_err_and c.from_residual-in_err-frame.result c.from_residual-in_err-frame.ensures.1 in
    rw (p.1, p.2) (undecoded r c.args.payload.now placed c.in_ok-placed.ensures.ok last (left_values before) fault begins
    (through (λ placed before. (fault ≡ Memory) ⊎ IsContentFault r (contents_of placed) (left_values before) fault) placed _ before _ c.deref-2.ensures.value
    c.deref-3.ensures.value c.in_err-frame.ensures.err))

pub returns-clause-ok : goal.returns-clause-ok
returns-clause-ok c =
    let r = c.args.recording.now in
    let last = last_value c.args.last in
    let placed = c.in_ok-placed.placed.items in
    let before = c.in_ok-before.before.items in
    let layout = c.in_ok-placed.ensures.ok in
    let begins = subst (λ items. BeginsWith r (headers_of items) last (left_values before)) c.deref.ensures.value c.in_ok-before.ensures.ok in
    let drawn = through (λ placed before. AreDrawn r (contents_of placed) (left_values before) (length placed) c.in_ok-frame.frame) placed _ before _
    c.deref-2.ensures.value c.deref-3.ensures.value c.in_ok-frame.ensures.ok in
    let long : length (contents_of placed) ≡ length placed = length-map placed (λ slice. slice.content.now) in
    let few : length placed ≤ length (contents_of placed) = omega (arith, long) in
    let have = have_pictures r c.args.payload.now placed layout (left_values before) drawn.pictures (length placed) few drawn.have in
    record {
      slices = layout.slices;
      headers = headers_of placed;
      laid_out = layout.laid_out;
      before = left_values before;
      begins = begins;
      pictures = drawn.pictures;
      have =
          subst (HavePictures r layout.slices (left_values before) drawn.pictures)
          (sym long ∙ count_of_contents r c.args.payload.now placed layout) have;
      is_frame = record {
        width = c.width.ensures;
        height = c.height.ensures;
        shift_h = c.shift_h.ensures;
        shift_v = c.shift_v.ensures;
        is_rgb = c.is_rgb.ensures;
        has_alpha = c.has_alpha.ensures;
        depth = c.depth.ensures.value;
        is_key = c.is_key.ensures ∙ ap (λ items. is_key (headers_of items)) c.deref-4.ensures.value;
        planes = drawn.drawn.planes;
        slices = drawn.drawn.slices;
      };
      is_left = drawn.drawn.left;
    }

pub returns-clause-fit : goal.returns-clause-fit
returns-clause-fit c =
    let r = c.args.recording.now in
    let drawn = c.in_ok-frame.ensures.ok in
    subst (FitLeft r) (sym drawn.drawn.left)
    (fit_left r (contents_of c.deref-2.result.now) (left_values c.deref-3.result.now) drawn.pictures (length c.deref-2.result.now) drawn.have)
