-- The elements of a file's top and of its Segment, by ID and by name (RFC 8794, section 11.2; RFC 9559, section 5.1).
use Rattle.std.specs.Prelude.{ℕ, ◌==◌, if◌then◌else◌, List, Option, Some, None, codes}
use Rattle.matroska_parts.specs.declared.top_elements.TopElement.{TopElement}
use Rattle.matroska_parts.specs.declared.top_elements.TopElement.TheVariants.{Ebml, Segment, SeekHead, Info, Tracks, Cues, Cluster, Attachments, Chapters, Tags, Void}

abbrev pub top_element_of : ℕ → Option TopElement
top_element_of id =
    if id == 0x1A45DFA3 then Some Ebml
    else if id == 0x18538067 then Some Segment
    else if id == 0x114D9B74 then Some SeekHead
    else if id == 0x1549A966 then Some Info
    else if id == 0x1654AE6B then Some Tracks
    else if id == 0x1C53BB6B then Some Cues
    else if id == 0x1F43B675 then Some Cluster
    else if id == 0x1941A469 then Some Attachments
    else if id == 0x1043A770 then Some Chapters
    else if id == 0x1254C367 then Some Tags
    else if id == 0xEC then Some Void
    else None

abbrev pub name_of : TopElement → List ℕ
name_of Ebml = codes "EBML"
name_of Segment = codes "Segment"
name_of SeekHead = codes "SeekHead"
name_of Info = codes "Info"
name_of Tracks = codes "Tracks"
name_of Cues = codes "Cues"
name_of Cluster = codes "Cluster"
name_of Attachments = codes "Attachments"
name_of Chapters = codes "Chapters"
name_of Tags = codes "Tags"
name_of Void = codes "Void"

-- which of the eleven it is
abbrev pub element_number : TopElement → ℕ
element_number Ebml = 0
element_number Segment = 1
element_number SeekHead = 2
element_number Info = 3
element_number Tracks = 4
element_number Cues = 5
element_number Cluster = 6
element_number Attachments = 7
element_number Chapters = 8
element_number Tags = 9
element_number Void = 10
