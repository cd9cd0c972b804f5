-- What the command `chain` prints: the chain of a payload, with a line for each link, from the payload's end, and a line for its end.
use Rattle.std.specs.Prelude.{ℕ, ◌+◌, ◌-◌, ◌≡◌, ◌==◌, ◌++◌, List, length, Option, IfSome, Result, Ok, Err, codes, if◌then◌else◌}
use Rattle.std.specs.List.{flat_map}
use Rattle.std.specs.Fmt.{decimal}
use Rattle.std.specs.Io.KnownBytes.{Appends, Keeps}
use Rattle.ffv1_slice.specs.Bits.{bits_of}
use Rattle.ffv1_slice.specs.Parity.{remainder_of}
use Rattle.ffv1_slice.specs.Chain.{LinkValue, AreLinksOf, status_before}
use Rattle.ffv1_slice.specs.Ending.{EndsAs}
use Rattle.ffv1_slice.specs.declared.chain.ChainEnd.{ChainEnd}
use Rattle.ffv1_slice.specs.declared.chain.ChainEnd.TheVariants.{Whole, Broken}
use Rattle.ffv1_devices.specs.Logs.{ReadLog, WriteLog, Writes, StopsWriting}
use Rattle.ffv1_commands.specs.Devices.{WritesFront, TakesWhole, StopsWithin, IsUnread}
use Rattle.ffv1_commands.specs.declared.fault.CliFault.{CliFault}
use Rattle.ffv1_commands.specs.declared.fault.CliFault.TheVariants as faults
use Rattle.ffv1_commands.specs.declared.path.CommandPath.TheVariants as paths

-- whether nothing is left of a slice after division by the parity's polynomial
abbrev pub parity_word : List ℕ → List ℕ
parity_word slice = if remainder_of (bits_of slice) == 0 then codes "pass" else codes "fail"

-- where the slice lies, and how many of its bytes stand before its footer
abbrev pub link_place : LinkValue → List ℕ
link_place link = decimal link.start ++ codes ".." ++ decimal (link.start + length link.bytes) ++ codes " size " ++ decimal (length link.bytes - 8)

-- its error status, and whether its parity passes
abbrev pub link_state : LinkValue → List ℕ
link_state link = codes " status " ++ decimal (status_before link.bytes (length link.bytes)) ++ codes " " ++ parity_word link.bytes ++ codes "\n"

abbrev pub link_line : LinkValue → List ℕ
link_line link = link_place link ++ link_state link

abbrev pub end_line : ChainEnd → List ℕ
end_line Whole = codes "end whole\n"
end_line (Broken place) = codes "end broken at " ++ decimal place ++ codes "\n"

-- The text has a line for each link of the payload, and for links alone, from its end, and a line for how its chain ends.
pub record IsChainText (payload text : List ℕ) : Type 0 where
  pub links : List LinkValue
  pub are_links : AreLinksOf payload links
  pub end : ChainEnd
  pub ends : EndsAs payload end
  pub reported : text ≡ flat_map link_line links ++ end_line end

-- The text of the payload was written.
abbrev pub PrintsChain : List ℕ → Option (List ℕ) → Option (List ℕ) → Type 0
PrintsChain payload before after = (text : List ℕ) × IsChainText payload text × Appends before after text

-- What a fault left in the output: nothing, but for a front of the text where writing failed.
abbrev pub ChainStops : Option (List ℕ) → Option (List ℕ) → Option (List ℕ) → CliFault → Type 0
ChainStops frame before after (faults.Read path) = (path ≡ paths.Frame) × Keeps before after
ChainStops frame before after (faults.Write path) =
    (path ≡ paths.StandardOutput) × IfSome frame (λ payload. (text : List ℕ) × IsChainText payload text × WritesFront before after text)
ChainStops frame before after faults.Memory = Keeps before after
ChainStops frame before after _ = ⊥

-- ---- over the logs of the devices

-- How a fault stopped the command: the payload was not read, which leaves the output as it was, or its text was not written whole.
abbrev pub ChainBreaks : (frame_old frame_new : ReadLog) → (output_old output_new : WriteLog) → CliFault → Type 0
ChainBreaks frame_old frame_new output_old output_new (faults.Read path) =
    (path ≡ paths.Frame) × IsUnread frame_old frame_new × (output_new ≡ output_old)
ChainBreaks frame_old frame_new output_old output_new (faults.Write path) =
    (path ≡ paths.StandardOutput) × ((payload text : List ℕ) × TakesWhole frame_old frame_new payload × IsChainText payload text
    × StopsWriting output_old output_new text)
ChainBreaks frame_old frame_new output_old output_new faults.Memory = StopsWithin frame_old frame_new × (output_new ≡ output_old)
ChainBreaks frame_old frame_new output_old output_new _ = ⊥

-- The payload was read whole and its text was written, or a fault stopped the command.
abbrev pub ReportsChain : {T : Type 0} → Result T CliFault → (frame_old frame_new : ReadLog) → (output_old output_new : WriteLog) → Type 0
ReportsChain (Ok x) frame_old frame_new output_old output_new =
    (payload text : List ℕ) × TakesWhole frame_old frame_new payload × IsChainText payload text × Writes output_old output_new text
ReportsChain (Err fault) frame_old frame_new output_old output_new = ChainBreaks frame_old frame_new output_old output_new fault
