use Rattle.ffv1_hold.proofs.Common.{common_steps, [], ◌∷◌, ◌++◌, arith, inl, sym, subst, ap, ◌∙◌, append_assoc, err_from_is_err_and, Reel, Contents, head_text, entries_text, file_entries, TakesText, IsPartOfEntries, IsPartOfFile, FileIsWhole, EntriesShow, FileShows, EntriesAreWhole, MayTake}
use Rattle.ffv1_hold.proofs.TextReads.{TakesText-trans, StopsAt-after, memory_stops}
use Rattle.ffv1_hold.proofs.Heads.{head_is_part, head_file, file_from_entries_part, file_from_whole_entries, file_from_entries_fault}
use Rattle.ffv1_hold.proofs.reading.read_parts.Goals as goal

pub returns-in_err-reel : goal.returns-in_err-reel
returns-in_err-reel g c =
    let p = err_from_is_err_and c.from_residual.result c.from_residual.ensures.1 in
    let e = c.in_err-reel.ensures.read in
    rw (p.1, p.2) (record { fault = head_file c.args.recordings _ _ _ e.fault; tries' = e.tries'; few = e.few })

-- the head was right, and memory for its tiles was refused
pub returns-in_err-holding : goal.returns-in_err-holding
returns-in_err-holding g c =
    let p = err_from_is_err_and c.from_residual-in_err-holding.result c.from_residual-in_err-holding.ensures.1 in
    let head = c.in_ok-reel.ensures in
    rw (p.1, p.2) (memory_stops (IsPartOfFile c.args.recordings) (FileIsWhole c.args.recordings) (FileShows c.args.recordings) _ _ _ _ _ head.read (inl (head_is_part _ c.in_ok-reel.reel head.reel head.has)))

pub returns-in_err-read_entries : goal.returns-in_err-read_entries
returns-in_err-read_entries g c =
    let p = err_from_is_err_and c.from_residual-in_err-read_entries.result c.from_residual-in_err-read_entries.ensures.1 in
    let r = c.in_ok-reel.reel in
    let is = c.in_ok-reel.ensures.reel in
    let same = ap (λ (h : Contents). h.reel) c.in_ok-holding.ensures in
    let v = c.read_head.new.self.version in
    let reel = c.in_ok-holding.holding.reel in
    rw (p.1, p.2) (StopsAt-after (IsPartOfEntries v reel) (IsPartOfFile c.args.recordings) (EntriesAreWhole v reel) (FileIsWhole c.args.recordings) (EntriesShow v reel) (FileShows c.args.recordings) _ _ _ _ _
    (head_text v r) c.in_ok-reel.ensures.read _ c.in_err-read_entries.ensures.read
    (λ s part. file_from_entries_part v r is s (subst (λ (x : Reel). IsPartOfEntries v x s) same part))
    (λ f s whole. file_from_whole_entries v r is f s (subst (λ (x : Reel). EntriesAreWhole v x f s) same whole))
    (λ f s shown. file_from_entries_fault v r is f s (subst (λ (x : Reel). EntriesShow v x f s) same shown)))

pub returns : goal.returns
returns g c =
    let r = c.in_ok-reel.reel in
    let v = c.read_head.new.self.version in
    let reel = c.in_ok-read_entries.ensures.reel ∙ ap (λ (h : Contents). h.reel) c.in_ok-holding.ensures in
    let entries = entries_text v (file_entries c.read_entries.new.holding) in
    let first = c.in_ok-reel.ensures in
    let more = c.in_ok-read_entries.ensures in
    let all = TakesText-trans _ _ _ _ _ _ _ _ first.read more.read in
    let whole = subst (TakesText _ _ _ _) (sym (append_assoc (head_text v r) entries (0 ∷ []))
    ∙ ap (λ (x : Reel). head_text v x ++ entries ++ 0 ∷ []) (sym reel)) all in
    record {
      well_formed = more.well_formed;
      taken = subst (MayTake c.args.recordings) (sym reel) first.reel.taken;
      file = grind (arith, common_steps);
      at_end = more.end;
      tries' = whole.tries';
      few = omega (arith, whole.few, whole.text.within);
    }
