use Rattle.std.proofs.Common.{[], ◌∷◌, refl, sym, ◌∙◌, inl, inr}
use Rattle.std.proofs.lemmas.List.{append-nil}
use Rattle.matroska.proofs.TrackSteps.{record_is_one}
use Rattle.matroska_parts.proofs.RecordSteps.{empty_by, some_by}
use Rattle.matroska_parts.proofs.records.push_record.Goals as goal

pub returns-in_default : goal.returns-in_default
returns-in_default c = ([], sym (append-nil c.args.parts.now.items), inr ((λ bytes has. absurd (c.in_default.ensures bytes has)), refl))

pub returns-then-is_empty : goal.returns-then-is_empty
returns-then-is_empty c = ([], sym (append-nil c.args.parts.now.items), inr ((λ bytes has. record_is_one c.args.track.now bytes c.in-Some.bytes.now has c.in-Some.ensures ∙ empty_by c.in-Some.bytes.now (sym c.is_empty.ensures ∙ c.if-is_empty.true)), refl))

pub returns : goal.returns
returns c = (
  _ ∷ [],
  c.in_ok-push.ensures.items,
  inl (
    _,
    record {
      bytes = c.in-Some.bytes.now;
      has = c.in-Some.ensures;
      some = some_by c.in-Some.bytes.now (sym c.is_empty.ensures ∙ c.if-is_empty.false);
      at = c.record_place.ensures;
      size = refl;
      named = refl;
      wrong = c.is_record_wrong.ensures;
      vouched_is = refl;
    },
    refl,
  ),
)
