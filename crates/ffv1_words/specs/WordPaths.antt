-- The paths that the command of the words has.
use Rattle.std.specs.Prelude.{ℕ, ◌≡◌, zero, suc, ◌+◌, ◌-◌, ◌==◌, if◌then◌else◌, List, [], map, slice_index_or, vec_len, codes}
use Rattle.std.specs.Borrow.{Bor}
use Rattle.ffv1_commands.specs.Paths.{IsChainPath, IsScanPath, IsCheckPath, IsShowPath, IsTakePath, IsJoinPath, IsMergePath, IsReportPath, IsHoldPath, IsSplicePath, IsMendPath, IsDecodePath}
use Rattle.ffv1_commands.specs.declared.path.CommandPath.{CommandPath}
use Rattle.ffv1_commands.specs.declared.path.CommandPath.TheVariants.{Record, Frame, Copy, Hold, Ranges, File, Inputs, Out}
use Rattle.ffv1_commands.specs.declared.path.CommandPath.TheVariants as paths
use Rattle.ffv1_words.specs.declared.words.Words.{Words}
use Rattle.ffv1_words.specs.declared.words.Words.TheVariants.{Chain, Scan, Check, Show, Setup, Take, Join, Merge, Report, Restore, Picture, Splice, Mend, Decode, Samples, Help, Version}

-- The command of the words has this path.
abbrev pub IsPathOf : Words → CommandPath → Type 0
IsPathOf (Chain frame) path = IsChainPath path
IsPathOf (Scan ranges file) path = IsScanPath path
IsPathOf (Check file) path = IsCheckPath path
IsPathOf (Show recording) path = IsShowPath path
IsPathOf (Setup recording) path = IsShowPath path
IsPathOf (Take recording out copies) path = IsTakePath (vec_len copies) path
IsPathOf (Join out first others) path = IsJoinPath (vec_len others + 1) path
IsPathOf (Merge out left right) path = IsMergePath path
IsPathOf (Report file) path = IsReportPath path
IsPathOf (Restore file out) path = IsHoldPath path
IsPathOf (Picture file out) path = IsHoldPath path
IsPathOf (Splice out copies) path = IsSplicePath (vec_len copies) path
IsPathOf (Mend list out copies) path = IsMendPath (vec_len copies) path
IsPathOf (Decode recording frame out) path = IsDecodePath path
IsPathOf (Samples recording out frames) path = IsTakePath (vec_len frames) path
IsPathOf Help path = path ≡ paths.StandardOutput
IsPathOf Version path = path ≡ paths.StandardOutput

-- the word at a place among words that name files
abbrev pub word_at : List (Bor (List ℕ)) → ℕ → List ℕ
word_at words place = slice_index_or (map (λ word. word.now) words) place []

-- the word that names a path of the command of the words; `inputs` for both of `merge` together, and `standard output` for that
unfoldable pub path_word : Words → CommandPath → List ℕ
path_word (Chain frame) Frame = frame.now
path_word (Scan ranges file) Ranges = ranges.now
path_word (Scan ranges file) File = file.now
path_word (Check file) File = file.now
path_word (Show recording) Record = recording.record.now
path_word (Setup recording) Record = recording.record.now
path_word (Take recording out copies) Record = recording.record.now
path_word (Take recording out copies) (Copy place) = word_at copies.items place
path_word (Take recording out copies) Out = out.now
path_word (Join out first others) (Hold place) = if place == 0 then first.now else word_at others.items (place - 1)
path_word (Join out first others) Out = out.now
path_word (Merge out left right) (Hold zero) = left.now
path_word (Merge out left right) (Hold (suc before)) = right.now
path_word (Merge out left right) Inputs = codes "inputs"
path_word (Merge out left right) Out = out.now
path_word (Report file) (Hold before) = file.now
path_word (Restore file out) (Hold before) = file.now
path_word (Restore file out) Out = out.now
path_word (Picture file out) (Hold before) = file.now
path_word (Picture file out) Out = out.now
path_word (Splice out copies) (Copy place) = word_at copies.items place
path_word (Splice out copies) Out = out.now
path_word (Mend list out copies) paths.List = list.now
path_word (Mend list out copies) (Copy place) = word_at copies.items place
path_word (Mend list out copies) Out = out.now
path_word (Decode recording frame out) Record = recording.record.now
path_word (Decode recording frame out) Frame = frame.now
path_word (Decode recording frame out) Out = out.now
path_word (Samples recording out frames) Record = recording.record.now
path_word (Samples recording out frames) (Copy place) = word_at frames.items place
path_word (Samples recording out frames) Out = out.now
path_word _ _ = codes "standard output"
