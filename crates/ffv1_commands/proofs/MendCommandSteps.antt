-- A file that is mended over devices, stated of the bytes of its list, its copies and its outputs.
use Rattle.std.proofs.Common.{◌≡◌, ◌⊎◌, ℕ, zero, suc, ◌<◌, List, [], ◌∷◌, ◌++◌, length, map, Option, Bool, Result, Ok, Err, IfOk, IfErr, sym, ap, ◌∙◌, subst, inl, inr, arith}
use Rattle.std.specs.Prelude.{All}
use Rattle.std.proofs.lemmas.List.Elements.{All-nil, All-cons}
use Rattle.std.proofs.KnownBytes.{Keeps-refl}
use Rattle.std.proofs.lemmas.List.{length-map, map-append}
use mathlib.Core.List.{map-map}
use Rattle.std.specs.List.{AllZip}
use Rattle.std.specs.Io.KnownBytes.{Appends, Keeps}
use Rattle.ffv1_devices.specs.Exact.{StopsReading}
use Rattle.ffv1_devices.specs.Logs.{ReadLog, WriteLog}
use Rattle.ffv1_devices.specs.Streams.{tries_of, no_failures, writer_of}
use Rattle.ffv1_devices.specs.declared.streams.ThroughWrite.{ThroughWrite}
use Rattle.ffv1_mend.specs.Mended.{MendedValue}
use Rattle.ffv1_stretches.specs.Copies.{CopyState, unread}
use Rattle.ffv1_stretches.specs.Listed.{AreStretches, IsFirstBadLine}
use Rattle.ffv1_stretches.specs.Passes.{AreRead, AreReadBut, MendsFront, StopsMending}
use Rattle.ffv1_devices.specs.Touching.{WritesIfTouched}
use Rattle.ffv1_stretches.specs.Stretches.{StretchValue}
use Rattle.ffv1_stretches.specs.declared.pass.MendFault.{MendFault}
use Rattle.ffv1_stretches.specs.declared.pass.MendFault.TheVariants as stops
use Rattle.ffv1_commands.specs.Devices.{InputBegins, IsWrittenIfTouched}
use Rattle.ffv1_commands.specs.Fault.{NamesPath, of_mend}
use Rattle.ffv1_commands.specs.InTurn.{log_of}
use Rattle.ffv1_commands.specs.Lists.{ReadsList, IsList, IfOfList}
use Rattle.ffv1_commands.specs.MendText.{IsFaultOfList, MendsListed, ReportsMend, MendsSome, MendsFiles, PassStops, MendStops, of_list, of_pass}
use Rattle.ffv1_commands.specs.Paths.{IsMendPath}
use Rattle.ffv1_commands.specs.declared.fault.CliFault.{CliFault}
use Rattle.ffv1_commands.specs.declared.fault.CliFault.TheVariants as faults
use Rattle.ffv1_commands.specs.declared.path.CommandPath.{CommandPath}
use Rattle.ffv1_commands.specs.declared.path.CommandPath.TheVariants as paths
use Rattle.ffv1_commands.proofs.InputLaws.{begins}
use Rattle.ffv1_commands.proofs.ReadLists.{list_of_bytes}
use Rattle.ffv1_commands.proofs.SpliceCommandSteps.{map_push}

-- the bytes that are left of each source
abbrev pub inputs_of : List ReadLog → List (Option (List ℕ))
inputs_of logs = map (λ log. log.remaining) logs

-- ---- what a fault says of what is untouched

pub list_kept : (P : Type 0) (fault : CliFault) → P → IfOfList paths.List fault P
list_kept P (faults.Read named) kept = λ is. kept
list_kept P (faults.Ranges number) kept = kept
list_kept P (faults.List number) kept = kept
list_kept P fault kept = tt

-- ---- copies of which nothing was read yet

module _ {C D : Type 0} (state : C → CopyState) (remaining : D → Option (List ℕ)) where
  abbrev pub states_of : List D → List CopyState
  states_of copies = map (λ copy. unread (log_of (remaining copy))) copies

  pub reader_more : (readers more : List C) (copies : List D) (reader : C) (copy : D) → more ≡ readers ++ reader ∷ [] → map state readers ≡ states_of copies
      → state reader ≡ unread (log_of (remaining copy)) → map state more ≡ states_of (copies ++ copy ∷ [])
  reader_more readers more copies reader copy pushed same one =
      sym (map_push state readers more reader pushed) ∙ ap (λ (states : List CopyState). states ++ state reader ∷ []) same
      ∙ ap (λ (s : CopyState). states_of copies ++ s ∷ []) one ∙ sym (map-append (λ copy. unread (log_of (remaining copy))) copies (copy ∷ []))

  pub readers_all : (readers : List C) (copies all : List D) → map (λ copy. copy) copies ≡ all → map state readers ≡ states_of copies
      → map state readers ≡ states_of all
  readers_all readers copies all is same =
      same ∙ sym (map-map (λ copy. unread (log_of (remaining copy))) (λ copy. copy) copies) ∙ ap states_of is

  nothing_read : (readers : List C) (copies : List D) → map state readers ≡ states_of copies → All (λ reader. (state reader).end ≡ 0) readers
  nothing_read [] copies same = All-nil (λ reader. (state reader).end ≡ 0)
  nothing_read (r ∷ readers) [] same = absurd (cc)
  nothing_read (r ∷ readers) (c ∷ copies) same =
      let first : state r ≡ unread (log_of (remaining c)) = cc in
      let rest : map state readers ≡ states_of copies = cc in
      All-cons (λ reader. (state reader).end ≡ 0) r readers (ap (λ (s : CopyState). s.end) first) (nothing_read readers copies rest)

  pub none_is_read : (readers now : List C) (copies : List D) → now ≡ readers → map state readers ≡ states_of copies → All (λ reader. (state reader).end ≡ 0) now
  none_is_read readers now copies value same = subst (All (λ reader. (state reader).end ≡ 0)) (sym value) (nothing_read readers copies same)

  -- their sources have the copies' bytes
  inputs_are : (readers : List C) (copies : List D) → map state readers ≡ states_of copies
      → inputs_of (map (λ reader. (state reader).log) readers) ≡ map remaining copies
  inputs_are readers copies same =
      ap inputs_of (sym (map-map (λ (s : CopyState). s.log) state readers) ∙ ap (map (λ (s : CopyState). s.log)) same
      ∙ map-map (λ (s : CopyState). s.log) (λ copy. unread (log_of (remaining copy))) copies)
      ∙ map-map (λ (log : ReadLog). log.remaining) (λ copy. log_of (remaining copy)) copies

-- ---- each copy begins with what was read of it

begin_all : (old new : List ReadLog) (files : List (List ℕ)) → AreRead old new files → AllZip InputBegins (inputs_of old) files
begin_all [] [] [] read = tt
begin_all (a ∷ old) (b ∷ new) (file ∷ files) (read, reads) = (begins a.remaining b.remaining file read.bytes', begin_all old new files reads)
begin_all old new files read = absurd read

begin_stopped : (a b : ReadLog) (file : List ℕ) → StopsReading a b file → InputBegins a.remaining file
begin_stopped a b file (inl broke) = begins a.remaining b.remaining file broke.bytes'
begin_stopped a b file (inr (read, end)) = begins a.remaining b.remaining file read.bytes'

begin_but : (copy : ℕ) (old new : List ReadLog) (files : List (List ℕ)) → AreReadBut copy old new files → AllZip InputBegins (inputs_of old) files
begin_but zero (a ∷ old) (b ∷ new) (file ∷ files) (stopped, reads) = (begin_stopped a b file stopped, begin_all old new files reads)
begin_but (suc copy) (a ∷ old) (b ∷ new) (file ∷ files) (read, reads) =
    (begins a.remaining b.remaining file read.bytes', begin_but copy old new files reads)
begin_but copy old new files read = absurd read

-- a copy that stopped is one of them
stopped_there : (copy : ℕ) (old new : List ReadLog) (files : List (List ℕ)) → AreReadBut copy old new files → copy < length old
stopped_there zero (a ∷ old) (b ∷ new) (file ∷ files) read = omega arith
stopped_there (suc copy) (a ∷ old) (b ∷ new) (file ∷ files) (read, reads) =
    let there : copy < length old = stopped_there copy old new files reads in omega arith
stopped_there copy old new files read = absurd read

-- ---- a fault of a pass is none of the list

pub pass_is_later : (stop : MendFault) (P : Type 0) → IfOfList paths.List (of_mend stop) P
pass_is_later (stops.Read copy) P = λ same. absurd (cc)
pass_is_later stops.Out P = tt
pass_is_later stops.Output P = tt
pass_is_later stops.Memory P = tt

-- ---- what is untouched before its first byte

-- the log of a wrapper
abbrev pub through_log : {W : Type 0} → (W → Option (List ℕ)) → ThroughWrite W → WriteLog
through_log contents s = record { contents = contents s.writer.now; tries = tries_of s.failures; reference = s.writer.ghost_name }

-- a fault of a pass is reported as one of the command
pub or_touched : {F G : Type 0} (of : F → G) (stop fault : F) {P : Type 0} → (stop ≡ fault) ⊎ P → (of stop ≡ of fault) ⊎ P
or_touched of stop fault (inl is) = inl (ap of is)
or_touched of stop fault (inr touched) = inr touched

-- what follows from what a fault of a list leaves
pub of_list_so : {P Q : Type 0} (path : CommandPath) (r : Result Bool CliFault) → (P → Q) → IfErr r (λ fault. IfOfList path fault P)
    → IfErr r (λ fault. IfOfList path fault Q)
of_list_so path (Ok good) then kept = tt
of_list_so path (Err (faults.Read named)) then kept = λ is. then (kept is)
of_list_so path (Err (faults.Ranges number)) then kept = then kept
of_list_so path (Err (faults.List number)) then kept = then kept
of_list_so path (Err fault) then kept = tt

-- a writer of which a wrapper was the sink, and what is left of it once the wrapper is gone
module _ {W : Type 0} (contents : W → Option (List ℕ)) (old new : ThroughWrite W) (w left : W) (name : ℕ)
    (log : through_log contents old ≡ record { contents = contents w; tries = no_failures; reference = name })
    (is : writer_of old ≡ w) (leaves : name ≡ new.writer.ghost_name → left ≡ writer_of new) where
  left_new : new.writer.ghost_name ≡ old.writer.ghost_name → left ≡ writer_of new
  left_new same = leaves (sym (ap (λ (l : WriteLog). l.reference) log) ∙ sym same)

  pub left_kept : new ≡ old → left ≡ w
  left_kept same = left_new (ap (λ (s : ThroughWrite W). s.writer.ghost_name) same) ∙ ap writer_of same ∙ is

  pub left_touched : {T : Type 0} (path : CommandPath) (r : Result T CliFault)
      → IfErr r (λ fault. (fault ≡ faults.Write path) ⊎ WritesIfTouched (through_log contents) old new)
      → IfErr r (IsWrittenIfTouched path (left ≡ w) (contents w) (contents left))
  left_touched path (Ok done) touched = tt
  left_touched path (Err fault) (inl failed) = inl failed
  left_touched path (Err fault) (inr (inl same)) = inr (inl (left_kept same))
  left_touched path (Err fault) (inr (inr (bytes, some, wrote))) =
      let to : Appends (contents w) (contents (writer_of new)) bytes =
      subst (λ (l : WriteLog). Appends l.contents (contents (writer_of new)) bytes) log wrote.bytes' in
      inr (inr (bytes, some, subst (λ (l : W). Appends (contents w) (contents l) bytes) (sym (left_new wrote.same)) to))

-- ---- over bytes

pub record MendOfBytes (r : Result Bool CliFault) (list : Option (List ℕ)) (copies : List (Option (List ℕ))) (ob oa pb pa : Option (List ℕ)) : Type 0 where
  pub ok : IfOk r (MendsFiles list copies ob oa pb pa)
  pub err : IfErr r (MendStops list copies ob oa pb pa)
  pub names : IfErr r (NamesPath (IsMendPath (length copies)))

module _ (a b : ReadLog) (old new : List ReadLog) (o o' p p' : WriteLog) where
  as_many : length old ≡ length (inputs_of old)
  as_many = sym (length-map old (λ log. log.remaining))

  abbrev some : (stretches front : List StretchValue) (files : List (List ℕ)) (mended : List MendedValue)
      → ReadsList (λ text. AreStretches (length old) text stretches) a b → AllZip InputBegins (inputs_of old) files
      → MendsFront stretches front files mended → MendsSome a.remaining (inputs_of old) stretches front files mended
  some stretches front files mended list begin mends = record {
    list' = subst (λ (n : ℕ). IsList (λ text. AreStretches n text stretches) a.remaining) as_many (list_of_bytes _ a b list);
    begin = begin;
    mends = mends;
  }

  abbrev Listed : (List StretchValue → Type 0) → Type 0
  Listed P = MendsListed (length old) a b P

  passed : (stop : MendFault) → Listed (λ stretches. StopsMending stretches old new o o' p p' stop)
      → PassStops a.remaining (inputs_of old) o.contents o'.contents p.contents p'.contents stop
  passed (stops.Read copy) (stretches, list, (front, files, mended, read, mends, ends, wrote, printed)) =
      (stretches, front, files, mended, some stretches front files mended list (begin_but copy old new files read) mends, ends, wrote.bytes', printed.bytes')
  passed stops.Out (stretches, list, (front, stretch, files, mended, one, read, mends, wrote, printed)) =
      (stretches, front, stretch, files, mended, one, some stretches _ files _ list (begin_all old new files read) mends, wrote.front, printed.bytes')
  passed stops.Output (stretches, list, (front, files, mended, read, mends, wrote, printed)) =
      (stretches, front, files, mended, some stretches front files mended list (begin_all old new files read) mends, wrote.bytes', printed.front)
  passed stops.Memory (stretches, list, (front, files, mended, read, mends, wrote, printed)) =
      (stretches, front, files, mended, some stretches front files mended list (begin_all old new files read) mends, wrote.bytes', printed.bytes')

  named : (stop : MendFault) → Listed (λ stretches. StopsMending stretches old new o o' p p' stop) → NamesPath (IsMendPath (length (inputs_of old))) (of_mend stop)
  named (stops.Read copy) (stretches, list, (front, files, mended, read, mends, ends, wrote, printed)) =
      subst (λ (n : ℕ). copy < n) as_many (stopped_there copy old new files read)
  named stops.Out listed = tt
  named stops.Output listed = tt
  named stops.Memory listed = tt

  kept : (x y : WriteLog) → y ≡ x → Keeps x.contents y.contents
  kept x y same = subst (λ (log : WriteLog). Keeps x.contents log.contents) (sym same) (Keeps-refl x.contents)

  abbrev OfBytes : Result Bool CliFault → Type 0
  OfBytes r = MendOfBytes r a.remaining (inputs_of old) o.contents o'.contents p.contents p'.contents

  unlisted : (fault : CliFault) → o' ≡ o → p' ≡ p → IsFaultOfList (length old) a b fault → OfBytes (Err fault)
  unlisted (faults.Read path) out output (is, unread) = record {
    ok = tt;
    err = of_list (faults.Read path) is (kept o o' out) (kept p p' output);
    names = subst (IsMendPath (length (inputs_of old))) (sym is) tt;
  }
  unlisted (faults.List number) out output list = record {
    ok = tt;
    err = of_list (faults.List number) (subst (λ (n : ℕ). IsList (λ text. IsFirstBadLine n text number) a.remaining) as_many (list_of_bytes _ a b list)) (kept o o' out) (kept p p' output);
    names = tt;
  }
  unlisted faults.Memory out output memory = record { ok = tt; err = of_list faults.Memory tt (kept o o' out) (kept p p' output); names = tt }
  unlisted fault out output none = absurd none

  pub mend_of_bytes : (r : Result Bool CliFault) → ReportsMend r a b old new o o' p p' → OfBytes r
  mend_of_bytes (Ok good) (stretches, list, all) = record {
    ok = record {
      stretches = stretches;
      files = all.files;
      mended = all.mended;
      all = some stretches stretches all.files all.mended list (begin_all old new all.files all.read) all.mends;
      wrote = all.wrote.bytes';
      printed = all.printed.bytes';
      returned = all.returned;
    };
    err = tt;
    names = tt;
  }
  mend_of_bytes (Err fault) (inl (unread, same, (out, output))) = unlisted fault out output unread
  mend_of_bytes (Err fault) (inr (stop, is, listed)) = record {
    ok = tt;
    err = subst (MendStops a.remaining (inputs_of old) o.contents o'.contents p.contents p'.contents) (sym is) (of_pass stop (passed stop listed));
    names = subst (NamesPath (IsMendPath (length (inputs_of old)))) (sym is) (named stop listed);
  }

-- the same, of readers
pub mend_of_files : {C D : Type 0} (state : C → CopyState) (remaining : D → Option (List ℕ)) (readers now : List C) (copies : List D) → now ≡ readers
    → map state readers ≡ states_of state remaining copies → (a b : ReadLog) (new : List ReadLog) (o o' p p' : WriteLog) (r : Result Bool CliFault)
    → ReportsMend r a b (map (λ reader. (state reader).log) now) new o o' p p'
    → MendOfBytes r a.remaining (map remaining copies) o.contents o'.contents p.contents p'.contents
mend_of_files state remaining readers now copies value same a b new o o' p p' r reported =
    let inputs = ap (λ all. inputs_of (map (λ reader. (state reader).log) all)) value ∙ inputs_are state remaining readers copies same in
    subst (λ (inputs : List (Option (List ℕ))). MendOfBytes r a.remaining inputs o.contents o'.contents p.contents p'.contents) inputs
    (mend_of_bytes a b _ new o o' p p' r reported)

-- ---- the list that was read

-- the stretches that are mended are those of the list, as it was read
pub listed_so : (a b : ReadLog) (count many : ℕ) (stretches read : List StretchValue) (P : List StretchValue → Type 0) → stretches ≡ read → count ≡ many
    → ReadsList (λ text. AreStretches count text read) a b → P stretches → MendsListed many a b P
listed_so a b count many stretches read P same as_many list so =
    (read, subst (λ (n : ℕ). ReadsList (λ text. AreStretches n text read) a b) as_many list, subst P same so)
