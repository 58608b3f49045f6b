-- `StripHeaderReader` drops a junk header. In each state of the reader, `remaining_in` gives the bytes that later reads
-- return.
use Rattle.std.specs.Prelude.{◌≡◌, ℕ, List, [], drop, take, length, Result, Ok, ◌++◌, ◌≤◌, Option, Some, None}
use Rattle.std.specs.Prelude.{option_map, option_and_then, Bool, true, false, ◌&&◌, if◌then◌else◌, IsTrue, IfOk, OnOk}
use Rattle.std.specs.Prelude.{IfErr, IfSome, IsSome}
use Rattle.std.specs.Io.KnownBytes.{IsAtEnd}
use Rattle.std.specs.IoError.{error_kind}
use Rattle.std.specs.declared.io.Error.{Error as IoError}
use Rattle.std.specs.declared.io.ErrorKind.TheVariants.{InvalidData}
use Rattle.sourcemap_headers.specs.declared.header_reader.HeaderState.{HeaderState}
use Rattle.sourcemap_headers.specs.declared.header_reader.HeaderState.TheVariants.{Start, InHeader, AfterHeader}
use Rattle.sourcemap_headers.specs.declared.header_reader.HeaderState.TheVariants.{Invalid}
use Rattle.sourcemap_headers.specs.declared.header_reader.Skipped.{Skipped}
use Rattle.sourcemap_headers.specs.declared.header_reader.Skipped.TheVariants.{StillJunk, Ends, IsInvalid}
use Rattle.sourcemap_headers.specs.declared.header_reader.StripHeaderReader.{StripHeaderReader}
use Rattle.sourcemap_headers.specs.Header.{begins_junk, continues_line, after_junk}

-- the bytes after the newline that ends the junk, or no bytes if there is no newline; `None` if the header is invalid
abbrev pub after_newline : List ℕ → Option (List ℕ)
after_newline bytes = option_map (drop 1) (after_junk bytes)

-- all bytes that later reads return, if `bytes` remain in the inner reader; `None` if the header is invalid
abbrev pub remaining_in : HeaderState → List ℕ → Option (List ℕ)
remaining_in Start bytes = if begins_junk bytes then after_newline bytes else Some bytes
remaining_in (InHeader after_return) bytes = if after_return && continues_line bytes then None else after_newline bytes
remaining_in AfterHeader bytes = Some bytes
remaining_in Invalid bytes = None

-- all bytes that later reads return, if the inner reader returns `chunk` and then `later`; `None` if the header is
-- invalid. The `Skipped` says which bytes of `chunk` are junk
abbrev pub remaining_after : Skipped → List ℕ → List ℕ → Option (List ℕ)
remaining_after (StillJunk after_return) chunk later = remaining_in (InHeader after_return) later
remaining_after (Ends junk_len) chunk later = Some (drop junk_len chunk ++ later)
remaining_after IsInvalid chunk later = None

-- if the junk ends in the chunk, at most `size` bytes of the chunk are junk
abbrev pub IsWithin : Skipped → ℕ → Type 0
IsWithin (Ends junk_len) size = junk_len ≤ size
IsWithin _ size = Unit {0}

-- the next bytes may belong to the header
abbrev pub IsInHeader : HeaderState → Type 0
IsInHeader Start = Unit {0}
IsInHeader (InHeader _) = Unit {0}
IsInHeader _ = ⊥

-- what is read from bytes that may begin with a header; `None` if the header is invalid
abbrev pub read_after_header : List ℕ → Option (List ℕ)
read_after_header = remaining_in Start

abbrev pub is_invalid : HeaderState → Bool
is_invalid Invalid = true
is_invalid _ = false

-- the header was found to be invalid
abbrev pub has_failed : {R : Type 0} → StripHeaderReader R → Bool
has_failed r = is_invalid r.state

-- all bytes that later reads of `r` return; `None` if the remaining bytes of the inner reader are not known, or if the
-- header is invalid. `remaining` maps an inner reader to its remaining bytes, or to `None` if they are not known
abbrev pub remaining_of : {R : Type 0} → (R → Option (List ℕ)) → StripHeaderReader R → Option (List ℕ)
remaining_of remaining r = option_and_then (remaining_in r.state) (remaining r.reader)

-- the output of a read: the first `n` bytes of `buf` if the read returned `Ok (Some n)`. The output is empty if the
-- read failed, or if it returned `Ok None` because the inner reader returned only junk
abbrev pub output : {E : Type 0} → Result (Option ℕ) E → List ℕ → List ℕ
output (Ok (Some n)) buf = take n buf
output _ buf = []

-- `old` and `new` are the reader before and after a read, and `bytes` is the output of the read. If the remaining bytes
-- of the inner reader are known before the read, they are also known after the read. Then either the header is invalid
-- in both `old` and `new`, or the bytes remaining in `old` are `bytes` followed by the bytes remaining in `new`
abbrev pub Outputs : {R : Type 0} → (R → Option (List ℕ)) → StripHeaderReader R → StripHeaderReader R → List ℕ → Type 0
Outputs remaining old new bytes =
    (xs : List ℕ) → remaining old.reader ≡ Some xs
    → (ys : List ℕ) × (remaining new.reader ≡ Some ys)
    × (remaining_in old.state xs ≡ option_map (λ later. bytes ++ later) (remaining_in new.state ys))

-- for some `count` and some `state` with `IsInHeader state`: the first `count` bytes of `buf` make the header invalid
-- for a reader in `state`, whatever bytes follow
abbrev pub ContainsInvalidHeader : List ℕ → Type 0
ContainsInvalidHeader buf = (state : HeaderState) × (count : ℕ) × IsInHeader state × (count ≤ length buf)
    × ((later : List ℕ) → remaining_in state (take count buf ++ later) ≡ None)

-- the remaining bytes of the inner reader are known. These bytes make the header invalid, or the header was already
-- found to be invalid
abbrev pub HasInvalidHeader : {R : Type 0} → (R → Option (List ℕ)) → StripHeaderReader R → Type 0
HasInvalidHeader remaining r = (xs : List ℕ) × (remaining r.reader ≡ Some xs) × (remaining_in r.state xs ≡ None)

-- what holds after one read of the inner reader. `old` and `new` are the reader before and after the read, and `buf` is
-- the buffer after the read. `result` is `Ok (Some n)` if the first `n` bytes of `buf` are output, and `Ok None` if the
-- inner reader returned only junk
pub record IsChunkRead {R : Type 0} (remaining : R → Option (List ℕ)) (old new : StripHeaderReader R)
    (result : Result (Option ℕ) IoError) (buf : List ℕ) : Type 0 where
  pub bound : IfOk result (λ count. IfSome count (λ n. n ≤ length buf))
  pub outputs : Outputs remaining old new (output result buf)
  pub end : IfOk result (λ count. count ≡ Some 0 → IsAtEnd (remaining_of remaining new))
  pub sound : OnOk result (has_failed new ≡ false)
  pub known : IfOk result (λ count. IsSome count → ¬ HasInvalidHeader remaining new)
  pub error : IfErr result (λ e. IsTrue (has_failed new) → (error_kind e ≡ InvalidData) × ContainsInvalidHeader buf)
