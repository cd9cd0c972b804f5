use Rattle.std.proofs.Common.{◌≡◌, ◌++◌, List, ℕ, drop, refl, sym, subst, arith}
use Rattle.std.proofs.lemmas.List.{length-append, length-drop, drop_at}
use Rattle.ebml_reader.specs.RunningCrc.{RunsOver}
use Rattle.matroska_parts.proofs.MasterSteps.{on_ok}
use Rattle.matroska_parts.proofs.EndSteps.{inside_parts}
use Rattle.matroska_parts.proofs.elements.push_inside.Goals as goal

pub returns : goal.returns
returns c = λ found start content first has begins is runs.
    let head = c.args.head.now in
    let inside = c.args.inside.now in
    let long = is.long in let within = c.requires.within in
    let rest : drop c.args.head.now.length (start ++ content) ≡ content = drop_at start content c.args.head.now.length begins in
    let all = length-append start content in
    let crc32_is = c.crc32_by.ensures (start ++ content) (omega (arith, begins, all)) (omega (arith, begins, all, long))
    (subst (λ (l : List ℕ). RunsOver l c.args.crc.now) (sym rest) runs) in
    on_ok c.push_end.result
    (inside_parts found c.args.tracks.now.named.tracks.items c.args.place head start content c.args.element c.crc32_by.result inside c.opening_of.result
    c.args.parts.now.items c.push.new.self.items c.push_span.new.parts.items c.push_doc_part.new.parts.items c.push_end.new.parts.items c.requires.known begins is crc32_is
    c.opening_of.ensures c.in_ok-push.ensures.items
    (c.in_ok-push_span.ensures (drop c.args.inside.now.children content) (omega (arith, long, length-drop c.args.inside.now.children content))) c.in_ok-push_doc_part.ensures)
    (c.push_end.ensures record { first = found; tracks = c.args.tracks.now.named.tracks.items } first refl)
