-- Nothing but counts of checked blocks and bytes depends on whether a Cluster's CRC-32 passes.
use Rattle.std.proofs.Common.{◌≡◌, ℕ, ◌+◌, Bool, true, cond, eqb, List, [], ◌∷◌, ◌++◌, refl, sym, ap, ◌∙◌}
use Rattle.std.specs.Prelude.{map, count_by, ◌||◌, not, is_some, Option, Some, None, option_map, option_to_list}
use Rattle.std.specs.List.{list_any, fold}
use Rattle.matroska.specs.NamedTracks.{each_after}
use Rattle.matroska_parts.specs.declared.top_elements.TopElement.{TopElement}
use Rattle.matroska_parts.specs.declared.top_elements.TopElement.TheVariants as tops
use Rattle.matroska_parts.specs.declared.parts.Part.{Part}
use Rattle.matroska_parts.specs.declared.parts.Part.TheVariants as part
use Rattle.matroska_parts.specs.declared.parts.Standing.{Standing}
use Rattle.matroska_parts.specs.declared.parts.Standing.TheVariants as standing
use Rattle.matroska_parts.specs.declared.parts.TrackBlock.{TrackBlock}
use Rattle.matroska_parts.specs.declared.parts.Closing.{Closing}
use Rattle.matroska_parts.specs.declared.parts.Crc32.{Crc32}
use Rattle.matroska_parts.specs.declared.parts.Crc32.TheVariants as crc
use Rattle.ffv1_check.specs.declared.findings.Finding.TheVariants as found
use Rattle.ffv1_check.specs.Before.{begins_any, begins_ebml, first_of, segment_in, first_segment, has_crc32, stamp, timestamp_after, time_of, is_of, is_block_of, time_in, time_at, last_time}
use Rattle.ffv1_check.specs.PartFindings.{is_misplaced, if_bare, closing_by, is_rising, time_findings, payload_findings, number_of_block, standing_findings, lines_at, place_of, part_findings, lines_of_part, lines_of_parts}
use Rattle.matroska_parts.specs.Inner.Vouched.{vouched_standing, vouched}
use Rattle.matroska_parts.proofs.VouchSteps.{map_append}

-- ---- words over lists

any_same : {X : Type 0} (p : X → Bool) (f : X → X) → ((x : X) → p (f x) ≡ p x) → (xs : List X) → list_any p (map f xs) ≡ list_any p xs
any_same p f same [] = refl
any_same p f same (x ∷ xs) = ap (λ b. b || list_any p (map f xs)) (same x) ∙ ap (λ b. p x || b) (any_same p f same xs)

fold_same : {X Y : Type 0} (step : Y → X → Y) (f : X → X) → ((y : Y) (x : X) → step y (f x) ≡ step y x) → (xs : List X) (y : Y) → fold step y (map f xs) ≡ fold step y xs
fold_same step f same [] y = refl
fold_same step f same (x ∷ xs) y = ap (λ z. fold step z (map f xs)) (same y x) ∙ fold_same step f same xs (step y x)

count_same : {X : Type 0} (p : X → Bool) (f : X → X) → ((x : X) → p (f x) ≡ p x) → (xs : List X) → count_by p (map f xs) ≡ count_by p xs
count_same p f same xs = fold_same (λ a x. a + cond (p x) 1 0) f (λ a x. ap (λ b. a + cond b 1 0) (same x)) xs 0

each_same : {X Y : Type 0} (g : List X → X → List Y) (f : X → X) → ((before : List X) (x : X) → g (map f before) (f x) ≡ g before x) → (before xs : List X)
    → each_after g (map f before) (map f xs) ≡ each_after g before xs
each_same g f same before [] = refl
each_same g f same before (x ∷ xs) =
    ap (λ l. l ++ each_after g (map f before ++ f x ∷ []) (map f xs)) (same before x)
    ∙ ap (λ b. g before x ++ each_after g b (map f xs)) (sym (map_append f before (x ∷ [])))
    ∙ ap (λ l. g before x ++ l) (each_same g f same (before ++ x ∷ []) xs)

-- ---- one part

begins_same : (p : Part) → begins_any (vouched p) ≡ begins_any p
begins_same (part.Unknown span) = refl
begins_same (part.Begin opening) = refl
begins_same (part.Timestamp timestamp) = refl
begins_same (part.Block block) = refl
begins_same (part.Record r) = refl
begins_same (part.NoMatroska place) = refl
begins_same (part.End closing) = refl

ebml_same : (p : Part) → begins_ebml (vouched p) ≡ begins_ebml p
ebml_same (part.Unknown span) = refl
ebml_same (part.Begin opening) = refl
ebml_same (part.Timestamp timestamp) = refl
ebml_same (part.Block block) = refl
ebml_same (part.Record r) = refl
ebml_same (part.NoMatroska place) = refl
ebml_same (part.End closing) = refl

segment_same : (p : Part) → segment_in (vouched p) ≡ segment_in p
segment_same (part.Unknown span) = refl
segment_same (part.Begin opening) = refl
segment_same (part.Timestamp timestamp) = refl
segment_same (part.Block block) = refl
segment_same (part.Record r) = refl
segment_same (part.NoMatroska place) = refl
segment_same (part.End closing) = refl

crc_same : (element : TopElement) (p : Part) → has_crc32 element (vouched p) ≡ has_crc32 element p
crc_same element (part.Unknown span) = refl
crc_same element (part.Begin opening) = refl
crc_same element (part.Timestamp timestamp) = refl
crc_same element (part.Block block) = refl
crc_same element (part.Record r) = refl
crc_same element (part.NoMatroska place) = refl
crc_same element (part.End closing) = refl

stamp_same : (found : Option ℕ) (p : Part) → stamp found (vouched p) ≡ stamp found p
stamp_same found (part.Unknown span) = refl
stamp_same found (part.Begin opening) = refl
stamp_same found (part.Timestamp timestamp) = refl
stamp_same found (part.Block block) = refl
stamp_same found (part.Record r) = refl
stamp_same found (part.NoMatroska place) = refl
stamp_same found (part.End closing) = refl

of_same : (index : ℕ) (s : Standing) → is_of index (vouched_standing s) ≡ is_of index s
of_same index standing.Short = refl
of_same index (standing.Unnamed track) = refl
of_same index (standing.Named block) = refl

block_of_same : (index : ℕ) (p : Part) → is_block_of index (vouched p) ≡ is_block_of index p
block_of_same index (part.Unknown span) = refl
block_of_same index (part.Begin opening) = refl
block_of_same index (part.Timestamp timestamp) = refl
block_of_same index (part.Block block) = of_same index block.standing
block_of_same index (part.Record r) = refl
block_of_same index (part.NoMatroska place) = refl
block_of_same index (part.End closing) = refl

-- ---- all parts

pub all_begin : (parts : List Part) → list_any begins_any (map vouched parts) ≡ list_any begins_any parts
all_begin parts = any_same begins_any vouched begins_same parts

pub all_ebml : (parts : List Part) → list_any begins_ebml (map vouched parts) ≡ list_any begins_ebml parts
all_ebml parts = any_same begins_ebml vouched ebml_same parts

pub all_segment : (parts : List Part) → first_segment (map vouched parts) ≡ first_segment parts
all_segment [] = refl
all_segment (p ∷ ps) = ap (λ o. first_of o (first_segment (map vouched ps))) (segment_same p) ∙ ap (first_of (segment_in p)) (all_segment ps)

pub all_crc : (element : TopElement) (parts : List Part) → list_any (has_crc32 element) (map vouched parts) ≡ list_any (has_crc32 element) parts
all_crc element parts = any_same (has_crc32 element) vouched (crc_same element) parts

pub all_stamp : (parts : List Part) → timestamp_after (map vouched parts) ≡ timestamp_after parts
all_stamp parts = fold_same stamp vouched stamp_same parts None

pub all_blocks : (index : ℕ) (parts : List Part) → count_by (is_block_of index) (map vouched parts) ≡ count_by (is_block_of index) parts
all_blocks index parts = count_same (is_block_of index) vouched (block_of_same index) parts

-- ---- times

time_of_same : (before : List Part) (block : TrackBlock) → time_of (map vouched before) (record block { is_vouched = true }) ≡ time_of before block
time_of_same before block = ap (option_map (λ timestamp. _)) (all_stamp before)

time_in_same : (index : ℕ) (before : List Part) (s : Standing) → time_in index (map vouched before) (vouched_standing s) ≡ time_in index before s
time_in_same index before standing.Short = refl
time_in_same index before (standing.Unnamed track) = refl
time_in_same index before (standing.Named block) = ap (λ o. cond (eqb block.index index) (option_to_list o) []) (time_of_same before block)

time_at_same : (index : ℕ) (before : List Part) (p : Part) → time_at index (map vouched before) (vouched p) ≡ time_at index before p
time_at_same index before (part.Unknown span) = refl
time_at_same index before (part.Begin opening) = refl
time_at_same index before (part.Timestamp timestamp) = refl
time_at_same index before (part.Block block) = time_in_same index before block.standing
time_at_same index before (part.Record r) = refl
time_at_same index before (part.NoMatroska place) = refl
time_at_same index before (part.End closing) = refl

pub all_last : (index : ℕ) (parts : List Part) → last_time index (map vouched parts) ≡ last_time index parts
all_last index parts = ap (fold (λ _ x. Some x) None) (each_same (time_at index) vouched (time_at_same index) [] parts)

-- ---- findings

misplaced_same : (before : List Part) (element : TopElement) → is_misplaced (map vouched before) element ≡ is_misplaced before element
misplaced_same before tops.Ebml = all_begin before
misplaced_same before tops.Segment =
    ap (λ o. is_some o || not (list_any begins_ebml (map vouched before))) (all_segment before)
    ∙ ap (λ b. is_some (first_segment before) || not b) (all_ebml before)
misplaced_same before tops.Void = refl
misplaced_same before tops.SeekHead = ap (λ o. not (is_some o)) (all_segment before)
misplaced_same before tops.Info = ap (λ o. not (is_some o)) (all_segment before)
misplaced_same before tops.Tracks = ap (λ o. not (is_some o)) (all_segment before)
misplaced_same before tops.Cues = ap (λ o. not (is_some o)) (all_segment before)
misplaced_same before tops.Cluster = ap (λ o. not (is_some o)) (all_segment before)
misplaced_same before tops.Attachments = ap (λ o. not (is_some o)) (all_segment before)
misplaced_same before tops.Chapters = ap (λ o. not (is_some o)) (all_segment before)
misplaced_same before tops.Tags = ap (λ o. not (is_some o)) (all_segment before)

closing_same : (c : Crc32) (before : List Part) (closing : Closing) → closing_by c (map vouched before) closing ≡ closing_by c before closing
closing_same crc.Cut before closing = refl
closing_same crc.Fails before closing = refl
closing_same crc.Passes before closing = refl
closing_same crc.Absent before closing = ap (λ b. if_bare b closing) (all_crc closing.element before)

standing_same : (before : List Part) (size : ℕ) (s : Standing) → standing_findings (map vouched before) size (vouched_standing s) ≡ standing_findings before size s
standing_same before size standing.Short = refl
standing_same before size (standing.Unnamed track) = refl
standing_same before size (standing.Named block) =
    ap (λ o. cond (not block.is_ffv1 || is_rising o (time_of (map vouched before) (record block { is_vouched = true }))) [] (found.Time block.track ∷ [])
    ++ payload_findings (number_of_block (map vouched before) block) block.track block.payload) (all_last block.index before)
    ∙ ap (λ o. cond (not block.is_ffv1 || is_rising (last_time block.index before) o) [] (found.Time block.track ∷ [])
    ++ payload_findings (number_of_block (map vouched before) block) block.track block.payload) (time_of_same before block)
    ∙ ap (λ n. time_findings before block ++ payload_findings (n + 1) block.track block.payload) (all_blocks block.index before)

findings_same : (before : List Part) (p : Part) → part_findings (map vouched before) (vouched p) ≡ part_findings before p
findings_same before (part.Unknown span) = refl
findings_same before (part.Begin opening) =
    ap (λ b. cond b (found.Misplaced opening.element ∷ []) [] ++ cond (is_some opening.end) [] (found.Endless opening.element ∷ [])) (misplaced_same before opening.element)
findings_same before (part.Timestamp timestamp) = refl
findings_same before (part.Block block) = standing_same before block.size block.standing
findings_same before (part.Record r) = refl
findings_same before (part.NoMatroska place) = refl
findings_same before (part.End closing) = closing_same closing.crc32 before closing

place_same : (p : Part) → place_of (vouched p) ≡ place_of p
place_same (part.Unknown span) = refl
place_same (part.Begin opening) = refl
place_same (part.Timestamp timestamp) = refl
place_same (part.Block block) = refl
place_same (part.Record r) = refl
place_same (part.NoMatroska place) = refl
place_same (part.End closing) = refl

line_same : (before : List Part) (p : Part) → lines_of_part (map vouched before) (vouched p) ≡ lines_of_part before p
line_same before p = ap (λ n. lines_at n (part_findings (map vouched before) (vouched p))) (place_same p) ∙ ap (lines_at (place_of p)) (findings_same before p)

pub all_lines : (parts : List Part) → lines_of_parts (map vouched parts) ≡ lines_of_parts parts
all_lines parts = each_same lines_of_part vouched line_same [] parts

-- ---- a front that stays

twice : (p : Part) → vouched (vouched p) ≡ vouched p
twice (part.Unknown span) = refl
twice (part.Begin opening) = refl
twice (part.Timestamp timestamp) = refl
twice (part.Block block) = again block.standing
  where
    again : (s : Standing) → part.Block record block { standing = vouched_standing (vouched_standing s) } ≡ part.Block record block { standing = vouched_standing s }
    again standing.Short = refl
    again (standing.Unnamed track) = refl
    again (standing.Named named) = refl
twice (part.Record r) = refl
twice (part.NoMatroska place) = refl
twice (part.End closing) = refl

map_twice : (own : List Part) → map vouched (map vouched own) ≡ map vouched own
map_twice [] = refl
map_twice (p ∷ ps) = ap (λ q. q ∷ map vouched (map vouched ps)) (twice p) ∙ ap (λ l. vouched p ∷ l) (map_twice ps)

-- what holds of all parts whether they are vouched or not, holds of those of which the last are
pub front_stays : {Y : Type 0} (f : List Part → Y) → ((parts : List Part) → f (map vouched parts) ≡ f parts) → (before own : List Part)
    → f (before ++ map vouched own) ≡ f (before ++ own)
front_stays f same before own =
    sym (same (before ++ map vouched own))
    ∙ ap f (map_append vouched before (map vouched own) ∙ ap (λ l. map vouched before ++ l) (map_twice own) ∙ sym (map_append vouched before own))
    ∙ same (before ++ own)
