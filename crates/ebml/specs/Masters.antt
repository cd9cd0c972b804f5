-- Masters, and what each has (RFC 8794, section 11.2; RFC 9559, section 5.1).
use Rattle.std.specs.Prelude.{ℕ, ◌==◌, if◌then◌else◌, List, [], ◌∷◌, Option, Some, None}

abbrev pub ebml_id : ℕ
ebml_id = 0x1A45DFA3

abbrev pub segment_id : ℕ
segment_id = 0x18538067

abbrev pub cluster_id : ℕ
cluster_id = 0x1F43B675

-- what a Cluster has: Timestamp, Position, PrevSize, SimpleBlock, BlockGroup, SilentTracks; and Void and CRC-32, as each master
abbrev pub cluster_ids : List ℕ
cluster_ids = 0xE7 ∷ 0xA7 ∷ 0xAB ∷ 0xA3 ∷ 0xA0 ∷ 0x5854 ∷ 0xEC ∷ 0xBF ∷ []

-- a BlockGroup: Block, BlockDuration, ReferencePriority, ReferenceBlock, ReferenceVirtual, CodecState, BlockAdditions, DiscardPadding,
-- Slices, ReferenceFrame
abbrev pub block_group_ids : List ℕ
block_group_ids = 0xA1 ∷ 0x9B ∷ 0xFA ∷ 0xFB ∷ 0xFD ∷ 0xA4 ∷ 0x75A1 ∷ 0x75A2 ∷ 0x8E ∷ 0xC8 ∷ 0xEC ∷ 0xBF ∷ []

-- the EBML: EBMLVersion, EBMLReadVersion, EBMLMaxIDLength, EBMLMaxSizeLength, DocType, DocTypeVersion, DocTypeReadVersion, DocTypeExtension
abbrev pub ebml_ids : List ℕ
ebml_ids = 0x4286 ∷ 0x42F7 ∷ 0x42F2 ∷ 0x42F3 ∷ 0x4282 ∷ 0x4287 ∷ 0x4285 ∷ 0x4281 ∷ 0xEC ∷ 0xBF ∷ []

-- Info: SegmentUUID, SegmentFilename, PrevUUID, PrevFilename, NextUUID, NextFilename, SegmentFamily, ChapterTranslate, TimestampScale,
-- Duration, DateUTC, Title, MuxingApp, WritingApp
abbrev pub info_ids : List ℕ
info_ids =
    0x73A4 ∷ 0x7384 ∷ 0x3CB923 ∷ 0x3C83AB ∷ 0x3EB923 ∷ 0x3E83BB ∷ 0x4444 ∷ 0x6924 ∷ 0x2AD7B1 ∷ 0x4489 ∷ 0x4461 ∷ 0x7BA9 ∷ 0x4D80 ∷ 0x5741
    ∷ 0xEC ∷ 0xBF ∷ []

-- a master of one kind of child
abbrev pub only_ids : ℕ → List ℕ
only_ids id = id ∷ 0xEC ∷ 0xBF ∷ []

-- The IDs of a master's children, by its own: EBML, SeekHead, Info, Tracks, Cues, Cluster, BlockGroup, Attachments, Chapters, Tags. A Segment
-- is not among these: what it has are items of the file.
abbrev pub child_ids : ℕ → Option (List ℕ)
child_ids id =
    if id == ebml_id then Some ebml_ids
    else if id == 0x114D9B74 then Some (only_ids 0x4DBB)
    else if id == 0x1549A966 then Some info_ids
    else if id == 0x1654AE6B then Some (only_ids 0xAE)
    else if id == 0x1C53BB6B then Some (only_ids 0xBB)
    else if id == cluster_id then Some cluster_ids
    else if id == 0xA0 then Some block_group_ids
    else if id == 0x1941A469 then Some (only_ids 0x61A7)
    else if id == 0x1043A770 then Some (only_ids 0x45B9)
    else if id == 0x1254C367 then Some (only_ids 0x7373)
    else None
