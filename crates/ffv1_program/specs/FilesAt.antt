-- What is known of the files of a program by their paths.
use Rattle.std.specs.Prelude.{ℕ, List, Option}
use Rattle.ffv1_devices.specs.Logs.{WriteLog}

-- The bytes of the file of a path, if they are known; that a source is that of the file, not opened yet, and so one with a buffer; that one is
-- of the file that was opened, and nothing of it is read yet; and that an opening of the file failed.
pub record FilesAt (Device Buffered : Type 0) : Type 1 where
  pub bytes_at : List ℕ → Option (List ℕ)
  pub is_device_at : List ℕ → Device → Type 0
  pub is_buffered_at : List ℕ → Buffered → Type 0
  pub is_opened_at : List ℕ → Device → Type 0
  pub cannot_open_at : List ℕ → Type 0

-- What is known of files that are made: the log of one as a sink; that it is the file of a path, not made yet; that it is made; and that making
-- it failed.
pub record FilesMade (Made : Type 0) : Type 1 where
  pub log : Made → WriteLog
  pub is_unmade_at : Made → List ℕ → Type 0
  pub is_made : Made → Type 0
  pub cannot_make : Made → Type 0
