-- What reading a stream hands back. Definitions only.
use Rattle.std.specs.Prelude.{ℕ, Result, Ok, Err}
use Rattle.streams.specs.declared.ReadFailed.{ReadFailed}

-- How many bytes were read, also where a read failed.
abbrev pub bytes_read : Result ℕ ReadFailed → ℕ
bytes_read (Ok n) = n
bytes_read (Err e) = e.bytes
