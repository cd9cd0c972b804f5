-- A reporter, part by part.
use Rattle.std.proofs.Common.{◌≡◌, ℕ, zero, suc, ◌+◌, ◌*◌, ◌^◌, ◌<◌, ◌≤◌, List, [], ◌∷◌, ◌++◌, length, take, get_or, sym, ap, ◌∙◌, subst, arith}
use Rattle.std.specs.List.{AllByRecursion}
use Rattle.std.specs.Global.{Vec}
use Rattle.std.proofs.lemmas.List.{take_more, take_all, append_assoc, length-append, length-take-le}
use Rattle.matroska_parts.specs.declared.parts.Part.{Part}
use Rattle.matroska_parts.specs.declared.parts.Part.TheVariants as part
use Rattle.matroska_parts.specs.Named.{IsBelow}
use Rattle.ffv1_check.specs.declared.findings.Line.{Line}
use Rattle.ffv1_check.specs.declared.tops.Found.{Found}
use Rattle.ffv1_check.specs.declared.progress.Progress.{Progress}
use Rattle.ffv1_check.specs.declared.report.Reporter.{Reporter}
use Rattle.ffv1_check.specs.PartFindings.{lines_at, place_of, part_findings, lines_of_parts}
use Rattle.ffv1_check.specs.Inner.Stands.{found_list, ProgressStands, ReporterStands}
use Rattle.ffv1_check.proofs.ReportSteps.{lines_more}

-- all but how many were taken, which is counted at the end
pub record StandsOn (tracks : ℕ) (parts : List Part) (reporter : Reporter) : Type 0 where
  pub stands : ProgressStands parts reporter.progress
  pub many : length reporter.progress.tracks.items ≡ tracks
  pub few : reporter.progress.checked ≤ 2 ^ 64 * length parts
  pub lines : reporter.lines.items ≡ lines_of_parts parts

pub on : (tracks : ℕ) (parts : List Part) (reporter : Reporter) → ReporterStands tracks parts reporter → StandsOn tracks parts reporter
on tracks parts reporter stands = record { stands = stands.stands; many = stands.many; few = stands.few; lines = stands.lines }

abbrev pub no_part : Part
no_part = part.Unknown record { place = 0; size = 0 }

pub part_more : (tracks : ℕ) (before parts : List Part) (i : ℕ) (old new : Reporter) (place : ℕ) (found : Found) → i < length parts
    → StandsOn tracks (before ++ take i parts) old → ProgressStands ((before ++ take i parts) ++ get_or parts i no_part ∷ []) new.progress
    → length new.progress.tracks.items ≡ length old.progress.tracks.items → new.progress.checked < old.progress.checked + 2 ^ 64
    → new.lines.items ≡ old.lines.items ++ lines_at place (found_list found) → place ≡ place_of (get_or parts i no_part)
    → found_list found ≡ part_findings (before ++ take i parts) (get_or parts i no_part) → StandsOn tracks (before ++ take (i + 1) parts) new
part_more tracks before parts i old new place found within so_far stands many most lines at is =
    let next : Part = get_or parts i no_part in
    let grown : before ++ take (i + 1) parts ≡ (before ++ take i parts) ++ get_or parts i no_part ∷ [] =
    ap (λ z. before ++ z) (take_more parts i no_part within) ∙ sym (append_assoc before (take i parts) (get_or parts i no_part ∷ [])) in
    let long : length (before ++ take (i + 1) parts) ≡ length (before ++ take i parts) + 1 =
    ap length grown ∙ length-append (before ++ take i parts) (get_or parts i no_part ∷ []) in
    let few = so_far.few in
    record {
      stands = subst (λ z. ProgressStands z new.progress) (sym grown) stands;
      many = many ∙ so_far.many;
      few = omega (arith, long, most, few);
      lines = lines_more (before ++ take i parts) (get_or parts i no_part) old.lines.items new.lines.items place found so_far.lines lines at is
          ∙ ap lines_of_parts (sym grown);
    }

-- so few parts that they can be counted
pub counted_few : (tracks : ℕ) (before parts : List Part) (i : ℕ) (reporter : Reporter) (taken : ℕ) → StandsOn tracks (before ++ take i parts) reporter
    → taken ≡ length before → taken + length parts < 2 ^ 63 → i < length parts → length (before ++ take i parts) < 2 ^ 63
counted_few tracks before parts i reporter taken stands is room within =
    omega (arith, is, room, within, length-append before (take i parts), length-take-le i parts (omega (arith, within)))

pub all_taken : (tracks : ℕ) (before parts : List Part) (i : ℕ) (old new : Reporter) → length parts ≤ i → StandsOn tracks (before ++ take i parts) old
    → new.progress ≡ old.progress → new.lines ≡ old.lines → new.taken ≡ length before + length parts → ReporterStands tracks (before ++ parts) new
all_taken tracks before parts i old new end stands progress lines taken =
    let all : before ++ take i parts ≡ before ++ parts = ap (λ z. before ++ z) (take_all i parts end) in
    let now : StandsOn tracks (before ++ parts) old = subst (λ z. StandsOn tracks z old) all stands in
    record {
      stands = subst (ProgressStands (before ++ parts)) (sym progress) now.stands;
      many = ap (λ (p : Progress). length p.tracks.items) progress ∙ now.many;
      few = subst (λ (p : Progress). p.checked ≤ 2 ^ 64 * length (before ++ parts)) (sym progress) now.few;
      lines = ap (λ (l : Vec Line). l.items) lines ∙ now.lines;
      taken' = taken ∙ sym (length-append before parts);
    }

pub below_at : (tracks : ℕ) (parts : List Part) (i : ℕ) → i < length parts → AllByRecursion (IsBelow tracks) parts → IsBelow tracks (get_or parts i no_part)
below_at tracks [] i within all = absurd (omega (arith, within))
below_at tracks (p ∷ ps) zero within all = all.0
below_at tracks (p ∷ ps) (suc i) within all = below_at tracks ps i (omega (arith, within)) all.1
