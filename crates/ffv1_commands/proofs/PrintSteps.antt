-- Texts that are printed front by front.
use Rattle.std.proofs.Common.{◌≡◌, ℕ, List, ◌++◌, Result, sym, ap, subst, ◌∙◌, append_assoc}
use Rattle.ffv1_devices.specs.Logs.{WriteLog, StopsWriting}
use Rattle.ffv1_devices.specs.Results.{WritesAll}
use Rattle.ffv1_devices.proofs.Steps.{Writes-trans, StopsWriting-after, WritesAll-after}
use Rattle.ffv1_commands.specs.Inner.Lines.{PrintsFront}

module _ (a b c : WriteLog) (waits text more : List ℕ) (front : PrintsFront a b waits text) where
  split-more : text ++ more ≡ front.printed ++ (waits ++ more)
  split-more = ap (λ t. t ++ more) front.split ∙ append_assoc front.printed waits more

  -- more text, of which a front was written
  pub front-more : (rest : List ℕ) → PrintsFront b c rest (waits ++ more) → PrintsFront a c rest (text ++ more)
  front-more rest next = record {
    printed = front.printed ++ next.printed;
    split = split-more ∙ ap (λ t. front.printed ++ t) next.split ∙ sym (append_assoc front.printed next.printed rest);
    written = Writes-trans a b c front.printed next.printed front.written next.written;
  }

  -- the rest was written, or writing it failed
  pub front_rest : {T E : Type 0} (r : Result T E) → WritesAll r b c (waits ++ more) → WritesAll r a c (text ++ more)
  front_rest r rest = subst (WritesAll r a c) (sym split-more) (WritesAll-after r a b c front.printed (waits ++ more) front.written rest)

  pub front-fails : StopsWriting b c (waits ++ more) → StopsWriting a c (text ++ more)
  front-fails fails = subst (StopsWriting a c) (sym split-more) (StopsWriting-after a b c front.printed (waits ++ more) front.written fails)
