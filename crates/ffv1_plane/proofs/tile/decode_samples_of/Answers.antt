use Rattle.std.proofs.Common.{◌≡◌, ◌/◌, ◌%◌, refl, sym, ap, subst, ◌∙◌}
use Rattle.ffv1_range.specs.Setup.{set_entry}
use Rattle.ffv1_range.specs.Tiles.{grid_of, plane_rect}
use Rattle.ffv1_range.specs.declared.grid.TileRect.{TileRect}
use Rattle.ffv1_plane.specs.Samples.{IsPlaneOfSize, coding_at}
use Rattle.ffv1_plane.specs.Inner.Progress.{IsPlaneRead}
use Rattle.ffv1_plane.specs.Inner.Halts.{IsDecodingHalted, IsPlaneOfHalted}
use Rattle.ffv1_plane.specs.SetTables.{SetTables}
use Rattle.ffv1_plane.specs.declared.plane.PlaneFault.{PlaneFault}
use Rattle.ffv1_plane.specs.declared.plane.PlaneFault.TheVariants as plane_faults
use Rattle.ffv1_plane.specs.declared.tile.TileFault.TheVariants.{Code}
use Rattle.ffv1_plane.proofs.Pictures.{plane_within_is}
use Rattle.ffv1_plane.proofs.tile.decode_samples_of.Goals as goal

pub plane_rect-rect-requires : goal.plane_rect-rect-requires
plane_rect-rect-requires c = rw c.grid.ensures (record { tile = c.requires.tile; plane = c.requires.plane })

pub decode_plane-requires-clause-some : goal.decode_plane-requires-clause-some
decode_plane-requires-clause-some c =
    (plane_within_is c.args.setup.now c.args.head.now.tile c.args.plane c.plane_rect-rect.result c.requires.profile c.requires.tile (c.plane_rect-rect.ensures ∙ ap (λ g. plane_rect g c.args.head.now.tile c.args.plane) c.grid.ensures)).some_columns

pub decode_plane-requires-clause-width : goal.decode_plane-requires-clause-width
decode_plane-requires-clause-width c =
    (plane_within_is c.args.setup.now c.args.head.now.tile c.args.plane c.plane_rect-rect.result c.requires.profile c.requires.tile (c.plane_rect-rect.ensures ∙ ap (λ g. plane_rect g c.args.head.now.tile c.args.plane) c.grid.ensures)).few_columns

pub decode_plane-requires-clause-height : goal.decode_plane-requires-clause-height
decode_plane-requires-clause-height c =
    (plane_within_is c.args.setup.now c.args.head.now.tile c.args.plane c.plane_rect-rect.result c.requires.profile c.requires.tile (c.plane_rect-rect.ensures ∙ ap (λ g. plane_rect g c.args.head.now.tile c.args.plane) c.grid.ensures)).few_rows

pub nonzero_div-result : goal.nonzero_div-result
nonzero_div-result c =
    (plane_within_is c.args.setup.now c.args.head.now.tile c.args.plane c.plane_rect-rect.result c.requires.profile c.requires.tile (c.plane_rect-rect.ensures ∙ ap (λ g. plane_rect g c.args.head.now.tile c.args.plane) c.grid.ensures)).some_columns

pub nonzero_rem-result : goal.nonzero_rem-result
nonzero_rem-result c =
    (plane_within_is c.args.setup.now c.args.head.now.tile c.args.plane c.plane_rect-rect.result c.requires.profile c.requires.tile (c.plane_rect-rect.ensures ∙ ap (λ g. plane_rect g c.args.head.now.tile c.args.plane) c.grid.ensures)).some_columns

pub returns-in-Ok : goal.returns-in-Ok
returns-in-Ok c =
    let rect : c.plane_rect-rect.result ≡ plane_rect (grid_of c.args.setup.now) c.args.head.now.tile c.args.plane =
    c.plane_rect-rect.ensures ∙ ap (λ g. plane_rect g c.args.head.now.tile c.args.plane) c.grid.ensures in
    let R : TileRect → SetTables → Type 0 = λ r t. IsPlaneRead r.w r.h
    (coding_at 8 (set_entry t.setup t.set)) c.args.states.items c.args.bits.now.left c.in-Ok.read.0.items c.in-Ok.read.1.items c.decode_plane.new.bits.left in
    let there : R (plane_rect (grid_of c.args.setup.now) c.args.head.now.tile c.args.plane) c.args.tables.now =
    subst (λ (r : TileRect). R r c.args.tables.now) rect c.in-Ok.ensures.read in
    record {
      len = c.in-Ok.ensures.len;
      size = subst (λ (r : TileRect). IsPlaneOfSize 8 r.w r.h c.in-Ok.read.0.items) rect c.in-Ok.ensures.size;
      read = subst (R (plane_rect (grid_of c.args.setup.now) c.args.head.now.tile c.args.plane)) c.requires.tables there;
      err = tt;
    }

pub returns-in-Err-Memory : goal.returns-in-Err-Memory
returns-in-Err-Memory c = record { len = tt; size = tt; read = tt; err = tt }

pub returns-in-Err-Code : goal.returns-in-Err-Code
returns-in-Err-Code c =
    let rect : c.plane_rect-rect.result ≡ plane_rect (grid_of c.args.setup.now) c.args.head.now.tile c.args.plane =
    c.plane_rect-rect.ensures ∙ ap (λ g. plane_rect g c.args.head.now.tile c.args.plane) c.grid.ensures in
    let R : TileRect → SetTables → PlaneFault → Type 0 = λ r t fault.
    IsDecodingHalted r.w r.h (coding_at 8 (set_entry t.setup t.set)) c.args.states.items c.args.bits.now.left fault in
    let given : R c.plane_rect-rect.result c.args.tables.now (plane_faults.Code c.in-Err-Code.fault c.in-Err-Code.sample) =
    subst (R c.plane_rect-rect.result c.args.tables.now) c.in-Err-Code.field-0-is c.in-Err-Code.ensures.err in
    let there = subst (λ (t : SetTables). R (plane_rect (grid_of c.args.setup.now) c.args.head.now.tile c.args.plane) t
    (plane_faults.Code c.in-Err-Code.fault c.in-Err-Code.sample)) c.requires.tables
    (subst (λ (r : TileRect). R r c.args.tables.now (plane_faults.Code c.in-Err-Code.fault c.in-Err-Code.sample)) rect given) in
    let S : TileRect → Type 0 = λ r. IsPlaneOfHalted c.args.setup.now c.args.head.now c.args.plane c.args.states.items c.args.bits.now.left
    (Code c.in-Err-Code.fault c.args.plane (c.in-Err-Code.sample / r.w) (c.in-Err-Code.sample % r.w)) in
    record { len = tt; size = tt; read = tt; err = subst S (sym rect) (refl, there) }
