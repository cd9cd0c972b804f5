-- The text of a chain, printed link by link.
use Rattle.std.proofs.Common.{◌≡◌, ◌≤◌, ℕ, List, [], ◌∷◌, ◌++◌, length, Option, IfSome, Result, Ok, Err, OnOk, IfErr, refl, sym, ap, subst, ◌∙◌, append_assoc}
use Rattle.std.specs.Io.KnownBytes.{Keeps}
use Rattle.std.proofs.KnownBytes.{Consumes-whole, Keeps-refl}
use Rattle.ffv1_bits.specs.Limits.{payload_limit}
use Rattle.std.specs.List.{flat_map}
use Rattle.ffv1_slice.specs.Chain.{LinkValue, AreLinksOf}
use Rattle.ffv1_slice.specs.Ending.{EndsAs}
use Rattle.ffv1_slice.specs.declared.chain.ChainEnd.{ChainEnd}
use Rattle.ffv1_devices.specs.Logs.{ReadLog, WriteLog, StopsWriting}
use Rattle.ffv1_devices.specs.Results.{WritesAll}
use Rattle.ffv1_devices.proofs.Steps.{StopsWriting-of}
use Rattle.ffv1_commands.specs.Inner.Lines.{PrintsFront}
use Rattle.ffv1_commands.specs.ChainText.{link_line, end_line, IsChainText, PrintsChain, ChainStops, ChainBreaks, ReportsChain}
use Rattle.ffv1_commands.specs.Devices.{UnlessWriting, WritesFront, FileStops}
use Rattle.ffv1_commands.specs.Fault.{NamesPath}
use Rattle.ffv1_commands.specs.Paths.{IsChainPath}
use Rattle.ffv1_commands.specs.declared.fault.CliFault.{CliFault}
use Rattle.ffv1_commands.specs.declared.fault.CliFault.TheVariants as faults
use Rattle.ffv1_commands.specs.declared.path.CommandPath.TheVariants as paths
use Rattle.ffv1_commands.proofs.UnreadFiles.{file_says}
use Rattle.ffv1_commands.proofs.Reporting.{whole_of}
use Rattle.ffv1_commands.proofs.PrintSteps.{front_rest, front-fails}

-- one link more
pub lines-more : (lines all : List ℕ) (link : LinkValue) (left rest : List LinkValue) → lines ++ flat_map link_line left ≡ all → left ≡ link ∷ rest
    → (lines ++ link_line link) ++ flat_map link_line rest ≡ all
lines-more lines all link left rest split next =
    append_assoc lines (link_line link) (flat_map link_line rest) ∙ ap (λ ls. lines ++ flat_map link_line ls) (sym next) ∙ split

module _ (a b c : WriteLog) (waits lines : List ℕ) (links left : List LinkValue) (end : ChainEnd)
    (split : lines ++ flat_map link_line left ≡ flat_map link_line links) (front : PrintsFront a b waits lines) (payload : List ℕ)
    (are : AreLinksOf payload links) (ends : EndsAs payload end) where
  abbrev all : List ℕ
  all = flat_map link_line links ++ end_line end

  reported : IsChainText payload all
  reported = record { links = links; are_links = are; end = end; ends = ends; reported = refl }

  -- the lines so far, and then the rest of the text
  rest-all : lines ++ (flat_map link_line left ++ end_line end) ≡ all
  rest-all = sym (append_assoc lines (flat_map link_line left) (end_line end)) ∙ ap (λ t. t ++ end_line end) split

  -- what waits was not printed whole
  pub link_fails : StopsWriting b c waits → (text : List ℕ) × IsChainText payload text × StopsWriting a c text
  link_fails fails = (
    all,
    reported,
    subst (StopsWriting a c) rest-all (front-fails a b c waits lines (flat_map link_line left ++ end_line end) front
        (StopsWriting-of b c waits (flat_map link_line left ++ end_line end) fails)),
  )

  -- the line of the end was printed after what waits, or was not
  pub end_printed : {T E : Type 0} (r : Result T E) → left ≡ [] → WritesAll r b c (waits ++ end_line end)
      → (text : List ℕ) × IsChainText payload text × WritesAll r a c text
  end_printed r none wrote =
      let last-all : lines ++ end_line end ≡ all = ap (λ ls. lines ++ (flat_map link_line ls ++ end_line end)) (sym none) ∙ rest-all in
      (all, reported, subst (WritesAll r a c) last-all (front_rest a b c waits lines (end_line end) front r wrote))

-- ---- a payload that was not read

module _ (f : CliFault) (a b : ReadLog) where
  pub payload_unread : (output : WriteLog) → FileStops paths.Frame f a b → ChainBreaks a b output output f
  payload_unread output = file_says (ChainBreaks a b output output) paths.Frame a b (λ unread. (refl, unread, refl)) (λ within. (within, refl)) f

  pub payload_untouched : {W : Type 0} (output : W) → FileStops paths.Frame f a b → UnlessWriting f (output ≡ output)
  payload_untouched output = file_says (λ fault. UnlessWriting fault (output ≡ output)) paths.Frame a b (λ unread. refl) (λ within. refl) f

-- ---- the same of bytes

pub record ChainOfBytes {T : Type 0} (r : Result T CliFault) (frame old new : Option (List ℕ)) : Type 0 where
  pub ok : OnOk r (IfSome frame (λ payload. PrintsChain payload old new))
  pub few : OnOk r (IfSome frame (λ payload. length payload ≤ payload_limit))
  pub err : IfErr r (ChainStops frame old new)
  pub names : IfErr r (NamesPath IsChainPath)

module _ {T : Type 0} (a b : ReadLog) (old new : WriteLog) where
  pub chain_of_bytes : (r : Result T CliFault) → ReportsChain r a b old new → ChainOfBytes r a.remaining old.contents new.contents
  chain_of_bytes (Ok x) (payload, text, took, reported, wrote) =
      let whole = whole_of a b payload took in
      record {
        ok = Consumes-whole _ _ payload (λ bytes. PrintsChain bytes old.contents new.contents) whole.taken whole.end (text, reported, wrote.bytes');
        few = Consumes-whole _ _ payload (λ bytes. length bytes ≤ payload_limit) whole.taken whole.end whole.few;
        err = tt;
        names = tt;
      }
  chain_of_bytes (Err (faults.Read path)) (same, unread, kept) = record {
    ok = tt;
    few = tt;
    err = (same, subst (λ (log : WriteLog). Keeps old.contents log.contents) (sym kept) (Keeps-refl old.contents));
    names = subst IsChainPath (sym same) tt;
  }
  chain_of_bytes (Err (faults.Write path)) (same, (payload, text, took, reported, stopped)) =
      let whole = whole_of a b payload took in
      record {
        ok = tt;
        few = tt;
        err = (
          same,
          Consumes-whole _ _ payload (λ bytes. (all : List ℕ) × IsChainText bytes all × WritesFront old.contents new.contents all) whole.taken whole.end
              (text, reported, stopped.front),
        );
        names = subst IsChainPath (sym same) tt;
      }
  chain_of_bytes (Err faults.Memory) (within, kept) = record {
    ok = tt;
    few = tt;
    err = subst (λ (log : WriteLog). Keeps old.contents log.contents) (sym kept) (Keeps-refl old.contents);
    names = tt;
  }
  chain_of_bytes (Err fault) stops = absurd stops
