-- One range more of a scan.
use Rattle.std.proofs.Common.{◌≡◌, cond, count_by, ℕ, ◌+◌, ◌-◌, ◌<◌, ◌≤◌, Bool, true, ◌&&◌, List, [], ◌∷◌, ◌++◌, length, get_or, drop, take, arith, refl, sym, ap, subst, ◌∙◌, inl, inr, ⊎_elim, append_assoc, append-nil, length-append, length-drop, Ok, Err, suc}
use Rattle.std.proofs.Math.Seq.{drop-append_seam, take-length, drop-cons}
use Rattle.std.proofs.lemmas.List.{drop-append-le, take-append-le, take-append-drop, length-take-le}
use Rattle.std.proofs.lemmas.List.Folds.{list_all-append}
use Rattle.std.proofs.Math.Bool.{and-true}
use Rattle.std.specs.List.{list_all}
use Rattle.std.specs.Io.KnownBytes.{IsAtEnd}
use Rattle.std.proofs.lemmas.List.Sums.{sum_by-cons}
use Rattle.ffv1_devices.specs.Logs.{ReadLog, WriteLog, Reads, BreaksOff, Writes, StopsWriting}
use Rattle.ffv1_devices.specs.declared.exact.NextFault.{NextFault}
use Rattle.ffv1_devices.specs.declared.exact.NextFault.TheVariants as nexts
use Rattle.ffv1_devices.specs.Exact.{ReadsNext}
use Rattle.ffv1_devices.proofs.ExactSteps.{EndsBefore-after}
use Rattle.ffv1_devices.proofs.Steps.{Reads-nil, Reads-trans, BreaksOff-after, Writes-nil, Writes-trans, StopsWriting-after}
use Rattle.ffv1_slice.specs.Chain.{LinkValue}
use Rattle.ffv1_scan.specs.declared.ranges.ByteRange.{ByteRange}
use Rattle.ffv1_scan.specs.declared.verdict.Verdict.{Verdict}
use Rattle.ffv1_scan.specs.declared.scanning.ScanFault.{ScanFault}
use Rattle.ffv1_scan.specs.declared.scanning.ScanFault.TheVariants as faults
use Rattle.ffv1_scan.specs.Ranges.{Rises, ranges_end}
use Rattle.ffv1_scan.specs.Verdicts.{is_passing, IsVerdictOf, bytes_in, AreVerdictsOf, is_undamaged, verdict_line, verdict_lines}
use Rattle.ffv1_scan.specs.Scans.{ScansFront, ScansRanges}
use Rattle.ffv1_scan.specs.Inner.Steps.{JudgesNext, LineStops}
use Rattle.ffv1_scan.specs.Steps.{scan_fault}
use Rattle.ffv1_scan.proofs.LineSteps.{ranges_end-push, ranges_end-least, ranges_end-front, rises_after, rises_front}

-- ---- verdicts

-- a range that lies within the bytes has the same ones with more after them
bytes_in-more : (file more : List ℕ) (range : ByteRange) → range.place + range.size ≤ length file → bytes_in (file ++ more) range ≡ bytes_in file range
bytes_in-more file more range within =
    ap (take range.size) (drop-append-le range.place file more (omega arith))
    ∙ take-append-le range.size (drop range.place file) more (omega (arith, length-drop range.place file))

-- the bytes of a range at the end are its own
bytes_in-last : (file here : List ℕ) (range : ByteRange) → length file ≡ range.place → length here ≡ range.size → bytes_in (file ++ here) range ≡ here
bytes_in-last file here range place size =
    ap (λ (n : ℕ). take range.size (drop n (file ++ here))) (sym place)
    ∙ ap (take range.size) (drop-append_seam file here)
    ∙ ap (λ (n : ℕ). take n here) (sym size) ∙ take-length here

AreVerdictsOf-more : (from : ℕ) (file more : List ℕ) (ranges : List ByteRange) (verdicts : List Verdict) → Rises from ranges → ranges_end from ranges ≤ length file
    → AreVerdictsOf file ranges verdicts → AreVerdictsOf (file ++ more) ranges verdicts
AreVerdictsOf-more from file more [] [] rise within are = tt
AreVerdictsOf-more from file more [] (v ∷ vs) rise within are = absurd are
AreVerdictsOf-more from file more (r ∷ rs) [] rise within are = absurd are
AreVerdictsOf-more from file more (r ∷ rs) (v ∷ vs) rise within are =
    let least = ranges_end-least (r.place + r.size) rs rise.1 in (
      subst (λ (bytes : List ℕ). IsVerdictOf bytes v) (sym (bytes_in-more file more r (omega (arith, least, within)))) are.0,
      AreVerdictsOf-more (r.place + r.size) file more rs vs rise.1 within are.1,
    )

AreVerdictsOf-push : (file : List ℕ) (ranges : List ByteRange) (verdicts : List Verdict) (range : ByteRange) (verdict : Verdict)
    → AreVerdictsOf file ranges verdicts → IsVerdictOf (bytes_in file range) verdict → AreVerdictsOf file (ranges ++ range ∷ []) (verdicts ++ verdict ∷ [])
AreVerdictsOf-push file [] [] range verdict are is = (is, tt)
AreVerdictsOf-push file [] (v ∷ vs) range verdict are is = absurd are
AreVerdictsOf-push file (r ∷ rs) [] range verdict are is = absurd are
AreVerdictsOf-push file (r ∷ rs) (v ∷ vs) range verdict are is = (are.0, AreVerdictsOf-push file rs vs range verdict are.1 is)

pub length-verdicts : (file : List ℕ) (ranges : List ByteRange) (verdicts : List Verdict) → AreVerdictsOf file ranges verdicts → length verdicts ≡ length ranges
length-verdicts file [] [] are = refl
length-verdicts file [] (v ∷ vs) are = absurd are
length-verdicts file (r ∷ rs) [] are = absurd are
length-verdicts file (r ∷ rs) (v ∷ vs) are = omega (arith, length-verdicts file rs vs are.1)

verdict_lines-push : (number : ℕ) (verdicts : List Verdict) (verdict : Verdict)
    → verdict_lines number (verdicts ++ verdict ∷ []) ≡ verdict_lines number verdicts ++ verdict_line (number + length verdicts) verdict
verdict_lines-push number [] verdict = append-nil (verdict_line number verdict) ∙ ap (λ (n : ℕ). verdict_line n verdict) (let e : number ≡ number + 0 = omega arith in e)
verdict_lines-push number (v ∷ vs) verdict =
    ap (λ (ls : List ℕ). verdict_line number v ++ ls)
    (verdict_lines-push (number + 1) vs verdict
    ∙ ap (λ (n : ℕ). verdict_lines (number + 1) vs ++ verdict_line n verdict) (let e : number + 1 + length vs ≡ number + suc (length vs) = omega arith in e))
    ∙ sym (append_assoc (verdict_line number v) (verdict_lines (number + 1) vs) (verdict_line (number + suc (length vs)) verdict))

-- whether all are undamaged, with one more
undamaged_more : (verdicts : List Verdict) (verdict : Verdict) → list_all is_undamaged (verdicts ++ verdict ∷ []) ≡ (list_all is_undamaged verdicts && is_undamaged verdict)
undamaged_more verdicts verdict = list_all-append is_undamaged verdicts (verdict ∷ []) ∙ ap (λ (b : Bool). list_all is_undamaged verdicts && b) (and-true (is_undamaged verdict))

-- ---- a range that is cut short

pub next_stops : (gap size : ℕ) (a b c : ReadLog) (before room : List ℕ) (fault : NextFault) → Reads a b before → length before ≡ gap
    → ReadsNext {T = Unit {0}} size (Err fault) room b c → JudgesNext gap size (Err (scan_fault fault)) a c
next_stops gap size a b c before room nexts.Read read long stops = EndsBefore-after a b c before size (gap + size) read stops (omega (arith, long))
next_stops gap size a b c before room nexts.Memory read long stops =
    (before ++ stops.0, Reads-trans a b c before stops.0 read stops.1, omega (arith, length-append before stops.0, long, stops.2))

-- ---- a scan so far

-- The ranges of a front were judged, and their lines written, and this is whether all are undamaged.
pub record IsScanned (front : List ByteRange) (undamaged : Bool) (old new : ReadLog) (out_old out_new : WriteLog) : Type 0 where
  pub bytes : List ℕ
  pub read : Reads old new bytes
  pub long : length bytes ≡ ranges_end 0 front
  pub verdicts : List Verdict
  pub judged : AreVerdictsOf bytes front verdicts
  pub wrote : Writes out_old out_new (verdict_lines 1 verdicts)
  pub all : undamaged ≡ list_all is_undamaged verdicts

pub scanned_none : (a c : ReadLog) (b : WriteLog) → Reads a c [] → IsScanned [] true a c b b
scanned_none a c b read = record { bytes = []; read = read; long = refl; verdicts = []; judged = tt; wrote = Writes-nil b; all = refl }

module _ (ranges front : List ByteRange) (range : ByteRange) (rest : List ByteRange) (split : ranges ≡ front ++ range ∷ rest) (rise : Rises 0 ranges)
    (a b : ReadLog) (x y : WriteLog) (undamaged : Bool) (so_far : IsScanned front undamaged a b x y) where
  rises : Rises 0 (front ++ range ∷ rest)
  rises = subst (Rises 0) split rise

  rises-front : Rises 0 front
  rises-front = rises_front 0 front (range ∷ rest) rises

  begins : ranges_end 0 front ≤ range.place
  begins = rises_after 0 front range rest rises

  joined : ranges ≡ (front ++ range ∷ []) ++ rest
  joined = split ∙ sym (append_assoc front (range ∷ []) rest)

  ends : range.place + range.size ≤ ranges_end 0 ranges
  ends =
      let le = ranges_end-front 0 (front ++ range ∷ []) rest (subst (Rises 0) joined rise) in
      omega (arith, le, ranges_end-push 0 front range, ap (ranges_end 0) joined)

  kept : (more : List ℕ) → AreVerdictsOf (so_far.bytes ++ more) front so_far.verdicts
  kept more = AreVerdictsOf-more 0 so_far.bytes more front so_far.verdicts rises-front (omega (arith, so_far.long)) so_far.judged

  module _ (last : ByteRange) (stands : last.place + last.size ≡ ranges_end 0 front) where
    -- the scan so far, with some bytes of the range
    abbrev unjudged : (Read : List ℕ → Type 0) (more : List ℕ) → Read (so_far.bytes ++ more) → length (so_far.bytes ++ more) < range.place + range.size
        → ScansFront ranges front Read (Writes x y)
    unjudged Read more read short = record {
      rest = range ∷ rest;
      split = split;
      bytes = so_far.bytes ++ more;
      read = read;
      least = omega (arith, length-append so_far.bytes more, so_far.long);
      most = omega (arith, short, ends);
      verdicts = so_far.verdicts;
      judged = kept more;
      wrote = so_far.wrote;
    }

    -- the file ended or failed before the range's end, or memory for the range was refused
    pub judging_stops : (c : ReadLog) (fault : ScanFault) → JudgesNext (range.place - last.place - last.size) range.size (Err fault) b c
        → ScansRanges ranges (Err fault) a c x y
    judging_stops c faults.Read stops =
        let all = so_far.bytes ++ stops.0 in
        let short : length all < range.place + range.size =
        omega (arith, length-append so_far.bytes stops.0, stops.2, so_far.long, stands, begins) in
        ⊎_elim (λ (broken : BreaksOff b c stops.0). inl (front, unjudged (BreaksOff a c) stops.0 (BreaksOff-after a b c _ _ so_far.read broken) short))
        (λ (ended : Reads b c stops.0 × IsAtEnd c.remaining).
        inr (front, unjudged (Reads a c) stops.0 (Reads-trans a b c _ _ so_far.read ended.0) short, ended.1, short)) stops.1
    judging_stops c faults.Memory stops = (
      front,
      unjudged (Reads a c) stops.0 (Reads-trans a b c _ _ so_far.read stops.1)
          (omega (arith, length-append so_far.bytes stops.0, stops.2, so_far.long, stands, begins)),
    )
    judging_stops c faults.Write stops = absurd stops

    module _ (c : ReadLog) (verdict : Verdict) (judges : JudgesNext (range.place - last.place - last.size) range.size (Ok verdict) b c)
        (number : ℕ) (numbered : number ≡ length front + 1) where
      abbrev before : List ℕ
      before = judges.0

      abbrev here : List ℕ
      here = judges.1

      abbrev all : List ℕ
      all = so_far.bytes ++ (before ++ here)

      read-all : Reads a c all
      read-all = Reads-trans a b c so_far.bytes (before ++ here) so_far.read judges.2

      long-all : length all ≡ range.place + range.size
      long-all = omega (arith, length-append so_far.bytes (before ++ here), length-append before here, judges.3, judges.4, so_far.long, stands, begins)

      own : bytes_in all range ≡ here
      own =
          ap (λ (bytes : List ℕ). bytes_in bytes range) (sym (append_assoc so_far.bytes before here))
          ∙ bytes_in-last (so_far.bytes ++ before) here range
          (omega (arith, length-append so_far.bytes before, judges.3, so_far.long, stands, begins)) judges.4

      judged-all : AreVerdictsOf all (front ++ range ∷ []) (so_far.verdicts ++ verdict ∷ [])
      judged-all = AreVerdictsOf-push all front so_far.verdicts range verdict (kept (before ++ here))
          (subst (λ (bytes : List ℕ). IsVerdictOf bytes verdict) (sym own) judges.5)

      counted : 1 + length so_far.verdicts ≡ number
      counted = omega (arith, numbered, length-verdicts so_far.bytes front so_far.verdicts so_far.judged)

      lines-all : verdict_lines 1 (so_far.verdicts ++ verdict ∷ []) ≡ verdict_lines 1 so_far.verdicts ++ verdict_line number verdict
      lines-all =
          verdict_lines-push 1 so_far.verdicts verdict
          ∙ ap (λ (n : ℕ). verdict_lines 1 so_far.verdicts ++ verdict_line n verdict) counted

      -- its line was written
      pub scanned_more : (z : WriteLog) → Writes y z (verdict_line number verdict) → (next : List ByteRange) → next ≡ front ++ range ∷ []
          → (own_undamaged : Bool) → own_undamaged ≡ is_undamaged verdict → IsScanned next (undamaged && own_undamaged) a c x z
      scanned_more z wrote next is own_undamaged same = subst (λ (rs : List ByteRange). IsScanned rs (undamaged && own_undamaged) a c x z) (sym is) (record {
        bytes = all;
        read = read-all;
        long = long-all ∙ sym (ranges_end-push 0 front range);
        verdicts = so_far.verdicts ++ verdict ∷ [];
        judged = judged-all;
        wrote = subst (Writes x z) (sym lines-all) (Writes-trans x y z _ _ so_far.wrote wrote);
        all = ap (λ (b : Bool). undamaged && b) same ∙ ap (λ (b : Bool). b && is_undamaged verdict) so_far.all ∙ sym (undamaged_more so_far.verdicts verdict);
      })

      -- its line was not written whole
      pub line_stops : (z : WriteLog) (fault : ScanFault) → LineStops (verdict_line number verdict) y z fault
          → ScansRanges ranges (Err fault) a c x z
      line_stops z faults.Write stops = (
        front ++ range ∷ [],
        record {
          rest = rest;
          split = joined;
          bytes = all;
          read = read-all;
          least = omega (arith, long-all, ranges_end-push 0 front range);
          most = omega (arith, long-all, ends);
          verdicts = so_far.verdicts ++ verdict ∷ [];
          judged = judged-all;
          wrote = subst (StopsWriting x z) (sym lines-all) (StopsWriting-after x y z _ _ so_far.wrote stops);
        },
        long-all ∙ sym (ranges_end-push 0 front range),
      )
      line_stops z faults.Memory stops = (
        front,
        record {
          rest = range ∷ rest;
          split = split;
          bytes = all;
          read = read-all;
          least = omega (arith, long-all, begins);
          most = omega (arith, long-all, ends);
          verdicts = so_far.verdicts;
          judged = kept (before ++ here);
          wrote = subst (λ (w : WriteLog). Writes x w (verdict_lines 1 so_far.verdicts)) (sym stops) so_far.wrote;
        },
      )
      line_stops z faults.Read stops = absurd stops

-- the file could not be read
pub never_opened : (ranges : List ByteRange) (a b : ReadLog) (x : WriteLog) → BreaksOff a b [] → ScansRanges ranges (Err faults.Read) a b x x
never_opened ranges a b x broken = inl (
  [],
  record {
    rest = ranges;
    split = refl;
    bytes = [];
    read = broken;
    least = omega arith;
    most = omega arith;
    verdicts = [];
    judged = tt;
    wrote = Writes-nil x;
  },
)

-- memory was refused before anything
pub nothing_scanned : (ranges : List ByteRange) (a : ReadLog) (x : WriteLog) → Rises 0 ranges → ScansRanges ranges (Err faults.Memory) a a x x
nothing_scanned ranges a x rise = (
  [],
  record {
    rest = ranges;
    split = refl;
    bytes = [];
    read = Reads-nil a;
    least = omega arith;
    most = omega arith;
    verdicts = [];
    judged = tt;
    wrote = Writes-nil x;
  },
)

-- all ranges were scanned
pub all_scanned : (ranges front : List ByteRange) (a b : ReadLog) (x y : WriteLog) (undamaged : Bool) → front ≡ ranges → IsScanned front undamaged a b x y
    → ScansRanges ranges (Ok undamaged) a b x y
all_scanned ranges front a b x y undamaged whole scanned =
    let scan = subst (λ (rs : List ByteRange). IsScanned rs undamaged a b x y) whole scanned in (
      record {
        rest = [];
        split = sym (append-nil ranges);
        bytes = scan.bytes;
        read = scan.read;
        least = omega (arith, scan.long);
        most = omega (arith, scan.long);
        verdicts = scan.verdicts;
        judged = scan.judged;
        wrote = scan.wrote;
      },
      scan.all,
    )

-- the ranges before one, it, and those after it
pub parted_at : (ranges : List ByteRange) (i : ℕ) (d : ByteRange) → i < length ranges
    → ranges ≡ take i ranges ++ (get_or ranges i d ∷ drop (suc i) ranges)
parted_at ranges i d lt = sym (take-append-drop i ranges) ∙ ap (λ (rs : List ByteRange). take i ranges ++ rs) (drop-cons ranges i d lt)

pub number_at : (ranges : List ByteRange) (i : ℕ) → i < length ranges → i + 1 ≡ length (take i ranges) + 1
number_at ranges i lt = omega (arith, length-take-le i ranges (omega arith))

-- the passing ones of links are those after the first one, and this one, if it passes
pub first_counted : {passing : Bool} {all links : List LinkValue} {link : LinkValue} → passing ≡ is_passing link → all ≡ link ∷ links
    → count_by is_passing all ≡ cond passing 1 0 + count_by is_passing links
first_counted {links = links} {link = link} is split = rw (split, is) (sum_by-cons (λ l. cond (is_passing l) 1 0) link links)
