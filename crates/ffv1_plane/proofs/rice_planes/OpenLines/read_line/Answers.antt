use Rattle.std.proofs.Common.{[], ◌∷◌, sym, subst, refl, lit<}
use Rattle.ffv1_range.specs.Setup.{set_entry}
use Rattle.ffv1_plane.specs.Samples.{coding_at}
use Rattle.ffv1_plane.specs.Lines.{line_at}
use Rattle.ffv1_plane.specs.Inner.Planes.{coding_of_planes}
use Rattle.ffv1_plane.specs.Inner.RiceRows.{IsCodeRowRead, IsRowCodesFaultOf}
use Rattle.ffv1_plane.specs.Inner.RiceLines.{codes_place, IsCutFor}
use Rattle.ffv1_plane.proofs.PlaneRows.{in_group}
use Rattle.ffv1_plane.proofs.RiceRows.{place_of}
use Rattle.ffv1_plane.proofs.RicePlanes.{luma_codes, chroma_codes, alpha_codes, code_line_of_group, code_cut_of_group, still_have}
use Rattle.ffv1_plane.proofs.rice_planes.OpenLines.read_line.Goals as goal

pub returns-in-Ok-clause-read : goal.returns-in-Ok-clause-read
returns-in-Ok-clause-read c =
    code_line_of_group c.args.self.is_rgb (coding_of_planes c.args.planes.now) c.args.plane c.args.row 0 c.args.planes.now.lines.items (codes_place c.args.self) _ c.index_mut-lines.result.now
    c.read_rice_row.new.lines (in_group (coding_of_planes c.args.planes.now) c.args.plane c.args.row 0 c.args.planes.now.lines.items c.index_mut-lines.result.now c.in-Luma.ensures (lit< tt)
    c.requires.inside c.index_mut-lines.ensures.value c.requires.place) c.in-Ok.ensures.same c.in-Ok.ensures.ended c.in-Ok.ensures.small
    (luma_codes (record { bits = c.args.self.codes.bits; luma = c.args.self.luma; chroma = c.args.self.chroma; alpha = c.args.self.alpha }) (record { bits = c.in-Ok.codes.bits; luma = c.in-Ok.luma; chroma = c.args.self.chroma; alpha = c.args.self.alpha }) refl refl)
    (subst (λ i. IsCodeRowRead c.index_mut-lines.result.now.width (coding_at c.index_mut-lines.result.now.depth (set_entry c.args.planes.now.luma.setup c.args.planes.now.luma.set)) (place_of c.index_mut-lines.result.now.samples i c.args.self.luma.items c.args.self.codes.bits.left)
    (place_of c.read_rice_row.new.lines.samples c.in-Ok.codes.index c.in-Ok.luma.items c.in-Ok.codes.bits.left)) c.index_at-index.ensures c.in-Ok.ensures.read)

pub returns-in-Err-clause-err : goal.returns-in-Err-clause-err
returns-in-Err-clause-err c =
    subst (IsCutFor c.args.self.is_rgb (coding_of_planes c.args.planes.now) (line_at c.args.plane c.args.row ∷ []) c.args.planes.now.lines.items (codes_place c.args.self))
    (sym c.placed.ensures)
    (code_cut_of_group c.args.self.is_rgb (coding_of_planes c.args.planes.now) c.args.plane c.args.row 0 c.args.planes.now.lines.items (codes_place c.args.self) c.index_mut-lines.result.now
    c.in-Err.fault (in_group (coding_of_planes c.args.planes.now) c.args.plane c.args.row 0 c.args.planes.now.lines.items c.index_mut-lines.result.now c.in-Luma.ensures (lit< tt)
    c.requires.inside c.index_mut-lines.ensures.value c.requires.place)
    (subst (λ i. IsRowCodesFaultOf c.index_mut-lines.result.now.width (coding_at c.index_mut-lines.result.now.depth (set_entry c.args.planes.now.luma.setup c.args.planes.now.luma.set)) (place_of c.index_mut-lines.result.now.samples i c.args.self.luma.items c.args.self.codes.bits.left) c.in-Err.fault) c.index_at-index.ensures
    c.in-Err.ensures.err))

pub returns-in-Ok-read_rice_row-clause-read : goal.returns-in-Ok-read_rice_row-clause-read
returns-in-Ok-read_rice_row-clause-read c =
    code_line_of_group c.args.self.is_rgb (coding_of_planes c.args.planes.now) c.args.plane c.args.row 1 c.args.planes.now.lines.items (codes_place c.args.self) _ c.index_mut-lines.result.now
    c.read_rice_row-in-Chroma.new.lines (in_group (coding_of_planes c.args.planes.now) c.args.plane c.args.row 1 c.args.planes.now.lines.items c.index_mut-lines.result.now c.in-Chroma.ensures (lit< tt)
    c.requires.inside c.index_mut-lines.ensures.value c.requires.place) c.in-Ok-read_rice_row.ensures.same c.in-Ok-read_rice_row.ensures.ended c.in-Ok-read_rice_row.ensures.small
    (chroma_codes (record { bits = c.args.self.codes.bits; luma = c.args.self.luma; chroma = c.args.self.chroma; alpha = c.args.self.alpha }) (record { bits = c.in-Ok-read_rice_row.codes.bits; luma = c.args.self.luma; chroma = c.in-Ok-read_rice_row.chroma; alpha = c.args.self.alpha }) refl refl)
    (subst (λ i. IsCodeRowRead c.index_mut-lines.result.now.width (coding_at c.index_mut-lines.result.now.depth (set_entry c.args.planes.now.chroma.setup c.args.planes.now.chroma.set)) (place_of c.index_mut-lines.result.now.samples i c.args.self.chroma.items c.args.self.codes.bits.left)
    (place_of c.read_rice_row-in-Chroma.new.lines.samples c.in-Ok-read_rice_row.codes.index c.in-Ok-read_rice_row.chroma.items c.in-Ok-read_rice_row.codes.bits.left)) c.index_at-index.ensures c.in-Ok-read_rice_row.ensures.read)

pub returns-in-Err-read_rice_row-clause-err : goal.returns-in-Err-read_rice_row-clause-err
returns-in-Err-read_rice_row-clause-err c =
    subst (IsCutFor c.args.self.is_rgb (coding_of_planes c.args.planes.now) (line_at c.args.plane c.args.row ∷ []) c.args.planes.now.lines.items (codes_place c.args.self))
    (sym c.placed-in-Err-read_rice_row.ensures)
    (code_cut_of_group c.args.self.is_rgb (coding_of_planes c.args.planes.now) c.args.plane c.args.row 1 c.args.planes.now.lines.items (codes_place c.args.self) c.index_mut-lines.result.now
    c.in-Err-read_rice_row.fault (in_group (coding_of_planes c.args.planes.now) c.args.plane c.args.row 1 c.args.planes.now.lines.items c.index_mut-lines.result.now c.in-Chroma.ensures (lit< tt)
    c.requires.inside c.index_mut-lines.ensures.value c.requires.place)
    (subst (λ i. IsRowCodesFaultOf c.index_mut-lines.result.now.width (coding_at c.index_mut-lines.result.now.depth (set_entry c.args.planes.now.chroma.setup c.args.planes.now.chroma.set)) (place_of c.index_mut-lines.result.now.samples i c.args.self.chroma.items c.args.self.codes.bits.left) c.in-Err-read_rice_row.fault) c.index_at-index.ensures
    c.in-Err-read_rice_row.ensures.err))

pub returns-in-Ok-read_rice_row-2-clause-read : goal.returns-in-Ok-read_rice_row-2-clause-read
returns-in-Ok-read_rice_row-2-clause-read c =
    code_line_of_group c.args.self.is_rgb (coding_of_planes c.args.planes.now) c.args.plane c.args.row 2 c.args.planes.now.lines.items (codes_place c.args.self) _ c.index_mut-lines.result.now
    c.read_rice_row-in-Alpha.new.lines (in_group (coding_of_planes c.args.planes.now) c.args.plane c.args.row 2 c.args.planes.now.lines.items c.index_mut-lines.result.now c.in-Alpha.ensures (lit< tt)
    c.requires.inside c.index_mut-lines.ensures.value c.requires.place) c.in-Ok-read_rice_row-2.ensures.same c.in-Ok-read_rice_row-2.ensures.ended c.in-Ok-read_rice_row-2.ensures.small
    (alpha_codes (record { bits = c.args.self.codes.bits; luma = c.args.self.luma; chroma = c.args.self.chroma; alpha = c.args.self.alpha }) (record { bits = c.in-Ok-read_rice_row-2.codes.bits; luma = c.args.self.luma; chroma = c.args.self.chroma; alpha = c.in-Ok-read_rice_row-2.alpha }) refl refl)
    (subst (λ i. IsCodeRowRead c.index_mut-lines.result.now.width (coding_at c.index_mut-lines.result.now.depth (set_entry c.args.planes.now.alpha.setup c.args.planes.now.alpha.set)) (place_of c.index_mut-lines.result.now.samples i c.args.self.alpha.items c.args.self.codes.bits.left)
    (place_of c.read_rice_row-in-Alpha.new.lines.samples c.in-Ok-read_rice_row-2.codes.index c.in-Ok-read_rice_row-2.alpha.items c.in-Ok-read_rice_row-2.codes.bits.left)) c.index_at-index.ensures c.in-Ok-read_rice_row-2.ensures.read)

pub returns-in-Err-read_rice_row-2-clause-err : goal.returns-in-Err-read_rice_row-2-clause-err
returns-in-Err-read_rice_row-2-clause-err c =
    subst (IsCutFor c.args.self.is_rgb (coding_of_planes c.args.planes.now) (line_at c.args.plane c.args.row ∷ []) c.args.planes.now.lines.items (codes_place c.args.self))
    (sym c.placed-in-Err-read_rice_row-2.ensures)
    (code_cut_of_group c.args.self.is_rgb (coding_of_planes c.args.planes.now) c.args.plane c.args.row 2 c.args.planes.now.lines.items (codes_place c.args.self) c.index_mut-lines.result.now
    c.in-Err-read_rice_row-2.fault (in_group (coding_of_planes c.args.planes.now) c.args.plane c.args.row 2 c.args.planes.now.lines.items c.index_mut-lines.result.now c.in-Alpha.ensures (lit< tt)
    c.requires.inside c.index_mut-lines.ensures.value c.requires.place)
    (subst (λ i. IsRowCodesFaultOf c.index_mut-lines.result.now.width (coding_at c.index_mut-lines.result.now.depth (set_entry c.args.planes.now.alpha.setup c.args.planes.now.alpha.set)) (place_of c.index_mut-lines.result.now.samples i c.args.self.alpha.items c.args.self.codes.bits.left) c.in-Err-read_rice_row-2.fault) c.index_at-index.ensures
    c.in-Err-read_rice_row-2.ensures.err))

pub returns-in-Ok-clause-states : goal.returns-in-Ok-clause-states
returns-in-Ok-clause-states c =
    let read = returns-in-Ok-clause-read c in
    still_have c.args.planes.now _ c.args.self (record { codes = c.in-Ok.codes; luma = c.in-Ok.luma; chroma = c.args.self.chroma; alpha = c.args.self.alpha; is_rgb = c.args.self.is_rgb }) read.count read.same_states c.requires.states

pub returns-in-Ok-read_rice_row-clause-states : goal.returns-in-Ok-read_rice_row-clause-states
returns-in-Ok-read_rice_row-clause-states c =
    let read = returns-in-Ok-read_rice_row-clause-read c in
    still_have c.args.planes.now _ c.args.self (record { codes = c.in-Ok-read_rice_row.codes; luma = c.args.self.luma; chroma = c.in-Ok-read_rice_row.chroma; alpha = c.args.self.alpha; is_rgb = c.args.self.is_rgb }) read.count read.same_states c.requires.states

pub returns-in-Ok-read_rice_row-2-clause-states : goal.returns-in-Ok-read_rice_row-2-clause-states
returns-in-Ok-read_rice_row-2-clause-states c =
    let read = returns-in-Ok-read_rice_row-2-clause-read c in
    still_have c.args.planes.now _ c.args.self (record { codes = c.in-Ok-read_rice_row-2.codes; luma = c.args.self.luma; chroma = c.args.self.chroma; alpha = c.in-Ok-read_rice_row-2.alpha; is_rgb = c.args.self.is_rgb }) read.count read.same_states c.requires.states
