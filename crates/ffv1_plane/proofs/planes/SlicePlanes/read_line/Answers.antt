use Rattle.std.proofs.Common.{[], ◌∷◌, sym, subst, refl, lit<}
use Rattle.ffv1_range.proofs.Forms.{is_at_place}
use Rattle.ffv1_plane.specs.Lines.{line_at}
use Rattle.ffv1_plane.specs.Inner.Planes.{coding_of_planes, lines_reader, IsLinesFaultOf}
use Rattle.ffv1_plane.proofs.PlaneRows.{in_group, luma_alone, chroma_alone, alpha_alone, line_of_group, cut_of_group}
use Rattle.ffv1_plane.proofs.planes.SlicePlanes.read_line.Goals as goal

pub returns-in-Ok-clause-read : goal.returns-in-Ok-clause-read
returns-in-Ok-clause-read c =
    line_of_group (coding_of_planes c.args.self.now) c.args.plane c.args.row 0 c.args.self.now.lines.items (lines_reader c.args.reader) _ c.index_mut-lines.result.now
    c.read_range_row.new.lines (in_group (coding_of_planes c.args.self.now) c.args.plane c.args.row 0 c.args.self.now.lines.items c.index_mut-lines.result.now c.in-Luma.ensures (lit< tt)
    c.requires.inside c.index_mut-lines.ensures.value c.requires.place) c.in-Ok.ensures.same c.in-Ok.ensures.ended c.in-Ok.ensures.small
    (luma_alone c.args.reader (record { decoder = c.in-Ok.decoder; luma = c.in-Ok.luma; chroma = c.args.reader.chroma; alpha = c.args.reader.alpha }) refl refl) (c.in-Ok.ensures.read 0 (lit< tt))

pub returns-in-Err-clause-err : goal.returns-in-Err-clause-err
returns-in-Err-clause-err c =
    subst (IsLinesFaultOf (coding_of_planes c.args.self.now) (line_at c.args.plane c.args.row ∷ []) c.args.self.now.lines.items (lines_reader c.args.reader))
    (sym c.placed.ensures)
    (cut_of_group (coding_of_planes c.args.self.now) c.args.plane c.args.row 0 c.args.self.now.lines.items (lines_reader c.args.reader) c.index_mut-lines.result.now
    c.in-Err.fault (in_group (coding_of_planes c.args.self.now) c.args.plane c.args.row 0 c.args.self.now.lines.items c.index_mut-lines.result.now c.in-Luma.ensures (lit< tt)
    c.requires.inside c.index_mut-lines.ensures.value c.requires.place) (is_at_place c.args.reader.decoder c.requires.alive) c.in-Err.ensures.err)

pub returns-in-Ok-read_range_row-clause-read : goal.returns-in-Ok-read_range_row-clause-read
returns-in-Ok-read_range_row-clause-read c =
    line_of_group (coding_of_planes c.args.self.now) c.args.plane c.args.row 1 c.args.self.now.lines.items (lines_reader c.args.reader) _ c.index_mut-lines.result.now
    c.read_range_row-in-Chroma.new.lines (in_group (coding_of_planes c.args.self.now) c.args.plane c.args.row 1 c.args.self.now.lines.items c.index_mut-lines.result.now c.in-Chroma.ensures (lit< tt)
    c.requires.inside c.index_mut-lines.ensures.value c.requires.place) c.in-Ok-read_range_row.ensures.same c.in-Ok-read_range_row.ensures.ended c.in-Ok-read_range_row.ensures.small
    (chroma_alone c.args.reader (record { decoder = c.in-Ok-read_range_row.decoder; luma = c.args.reader.luma; chroma = c.in-Ok-read_range_row.chroma; alpha = c.args.reader.alpha }) refl refl) (c.in-Ok-read_range_row.ensures.read 1 (lit< tt))

pub returns-in-Err-read_range_row-clause-err : goal.returns-in-Err-read_range_row-clause-err
returns-in-Err-read_range_row-clause-err c =
    subst (IsLinesFaultOf (coding_of_planes c.args.self.now) (line_at c.args.plane c.args.row ∷ []) c.args.self.now.lines.items (lines_reader c.args.reader))
    (sym c.placed-in-Err-read_range_row.ensures)
    (cut_of_group (coding_of_planes c.args.self.now) c.args.plane c.args.row 1 c.args.self.now.lines.items (lines_reader c.args.reader) c.index_mut-lines.result.now
    c.in-Err-read_range_row.fault (in_group (coding_of_planes c.args.self.now) c.args.plane c.args.row 1 c.args.self.now.lines.items c.index_mut-lines.result.now c.in-Chroma.ensures (lit< tt)
    c.requires.inside c.index_mut-lines.ensures.value c.requires.place) (is_at_place c.args.reader.decoder c.requires.alive) c.in-Err-read_range_row.ensures.err)

pub returns-in-Ok-read_range_row-2-clause-read : goal.returns-in-Ok-read_range_row-2-clause-read
returns-in-Ok-read_range_row-2-clause-read c =
    line_of_group (coding_of_planes c.args.self.now) c.args.plane c.args.row 2 c.args.self.now.lines.items (lines_reader c.args.reader) _ c.index_mut-lines.result.now
    c.read_range_row-in-Alpha.new.lines (in_group (coding_of_planes c.args.self.now) c.args.plane c.args.row 2 c.args.self.now.lines.items c.index_mut-lines.result.now c.in-Alpha.ensures (lit< tt)
    c.requires.inside c.index_mut-lines.ensures.value c.requires.place) c.in-Ok-read_range_row-2.ensures.same c.in-Ok-read_range_row-2.ensures.ended c.in-Ok-read_range_row-2.ensures.small
    (alpha_alone c.args.reader (record { decoder = c.in-Ok-read_range_row-2.decoder; luma = c.args.reader.luma; chroma = c.args.reader.chroma; alpha = c.in-Ok-read_range_row-2.alpha }) refl refl) (c.in-Ok-read_range_row-2.ensures.read 2 (lit< tt))

pub returns-in-Err-read_range_row-2-clause-err : goal.returns-in-Err-read_range_row-2-clause-err
returns-in-Err-read_range_row-2-clause-err c =
    subst (IsLinesFaultOf (coding_of_planes c.args.self.now) (line_at c.args.plane c.args.row ∷ []) c.args.self.now.lines.items (lines_reader c.args.reader))
    (sym c.placed-in-Err-read_range_row-2.ensures)
    (cut_of_group (coding_of_planes c.args.self.now) c.args.plane c.args.row 2 c.args.self.now.lines.items (lines_reader c.args.reader) c.index_mut-lines.result.now
    c.in-Err-read_range_row-2.fault (in_group (coding_of_planes c.args.self.now) c.args.plane c.args.row 2 c.args.self.now.lines.items c.index_mut-lines.result.now c.in-Alpha.ensures (lit< tt)
    c.requires.inside c.index_mut-lines.ensures.value c.requires.place) (is_at_place c.args.reader.decoder c.requires.alive) c.in-Err-read_range_row-2.ensures.err)
