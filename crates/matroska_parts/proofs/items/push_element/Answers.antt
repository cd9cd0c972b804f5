use Rattle.std.proofs.Common.{◌≡◌, ◌+◌, length, drop, sym, ap, ◌∙◌, subst}
use Rattle.std.proofs.lemmas.List.{take_rest, length-drop}
use Rattle.ebml.proofs.Heads.{after}
use Rattle.matroska_parts.specs.MasterParts.{AreContentParts}
use Rattle.matroska_parts.specs.Openings.{AreDocParts}
use Rattle.matroska_parts.specs.Inner.Added.{AddsParts}
use Rattle.matroska_parts.proofs.ItemSteps.{element_there, closing_is}
use Rattle.matroska_parts.proofs.items.push_element.Goals as goal

pub returns : goal.returns
returns c = λ found first.
    let head = c.args.head.now in
    let same : after c.args.bytes.now c.args.head.now.length ≡ drop c.args.head.now.length c.args.bytes.now = take_rest c.args.bytes.now c.args.head.now.length in
    let closes = closing_is c.args.place c.in-Some.element head c.args.bytes.now c.crc32_of-crc32.result _ (ap length same ∙ length-drop c.args.head.now.length c.args.bytes.now) in
    element_there found c.args.tracks.now.named.tracks.items c.args.place head c.args.bytes.now c.in-Some.element c.crc32_of-crc32.result c.passes-is_vouched.result c.says_records-here.result
    c.opening_of.result _ c.args.parts.now.items c.push.new.self.items c.push_content.new.parts.items c.push_doc.new.parts.items c.push_records_if.new.parts.items
    c.push-2.new.self.items (sym c.top_element.ensures ∙ c.in-Some.is) c.crc32_of-crc32.ensures c.opening_of.ensures closes c.passes-is_vouched.ensures (c.says_records-here.ensures found first)
    c.in_ok-push.ensures.items
    (subst (λ z. AddsParts (AreContentParts c.args.head.now.id c.args.tracks.now.named.tracks.items c.passes-is_vouched.result (c.args.place + c.args.head.now.length) z)
    c.push.new.self.items c.push_content.new.parts.items) same c.in_ok-push_content.ensures)
    (subst (λ z. AddsParts (AreDocParts c.in-Some.element c.args.place z) c.push_content.new.parts.items c.push_doc.new.parts.items) same c.in_ok-push_doc.ensures)
    c.in_ok-push_records_if.ensures c.in_ok-push-2.ensures.items
