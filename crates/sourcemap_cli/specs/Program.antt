-- The output and the exit status of a run.
use Rattle.std.specs.Prelude.{◌≡◌, ◌≢◌, ℕ, List, [], ◌++◌, codes, flat_map, if◌then◌else◌, Option, Some, None, option_map, Result, Ok, Err, IsOkAnd, Bool, true, false, not, String, Vec, string_bytes, ◌⊎◌, is_some}
use Rattle.std.specs.Fmt.{decimal}
use Rattle.std.specs.Io.KnownBytes.{Appends}
use Rattle.sourcemap.specs.Adjust.{adjusted}
use Rattle.sourcemap.specs.AnyMap.{IsTextOf}
use Rattle.sourcemap.specs.Answer.{UnlessMemory}
use Rattle.sourcemap.specs.Errors.{error_text, FromIo}
use Rattle.sourcemap.specs.HermesRewrite.{rewritten as hermes_rewritten}
use Rattle.sourcemap.specs.Decoder.{BytesDecode, Reading, UnlessReadFails}
use Rattle.sourcemap.specs.Flat.{FlatAnswer}
use Rattle.sourcemap.specs.Rewrite.{no_removal, rewritten}
use Rattle.sourcemap.specs.Shift.{HaveRowsLeft, shifted}
use Rattle.sourcemap.specs.Token.{token_text, tokens_from, says, TokenValue}
use Rattle.sourcemap.specs.TreeDecoder.{Then}
use Rattle.sourcemap.specs.Trees.{LeafMap, regular, hermes, held, MapTree, leaf, index, MapSection, IndexParts, section_list, sections_from, lookup, meaning, IsInOrder}
use Rattle.sourcemap.specs.Types.{MapValue, Meaning}
use Rattle.sourcemap.specs.declared.errors.Error.{Error}
use Rattle.sourcemap.specs.declared.errors.Error.TheVariants.{IncompatibleSourceMap, OutOfMemory}
use Rattle.std.specs.declared.alloc.Global.{Global}
use Rattle.std.specs.declared.io.Error.{Error as IoError}
use Rattle.sourcemap_compiled.specs.Soundness.{IsSound}
use Rattle.sourcemap_cache.specs.Errors.{error_text as compile_error_text}
use Rattle.sourcemap_cache.specs.declared.errors.CompileError.{CompileError}
use Rattle.sourcemap_cache.specs.declared.errors.CompileError.TheVariants.{Map, TooLarge}
use Rattle.sourcemap_check_print.specs.Print.{IsReportOf}
use Rattle.sourcemap_check_suspicious.specs.Suspects.{Files}
use Rattle.sourcemap_trace.specs.Asked.{compiled_says}
use Rattle.sourcemap_trace.specs.Positions.{first_of}
use Rattle.sourcemap_trace.specs.Trace.{meaning_text, trace_from}
use Rattle.sourcemap_cli.specs.Checking.{name_in}
use Rattle.sourcemap_cli.specs.Checks.{Judges, ReadsFiles, ReadsGenerated}
use Rattle.sourcemap_cli.specs.Command.{AskFor}
use Rattle.sourcemap_cli.specs.Compiled.{CompilesTo, IsRefusedCompiled, IsTooLarge, compiled_line, is_compiled}
use Rattle.sourcemap_cli.specs.Lines.{IsLineOf, newline}
use Rattle.sourcemap_cli.specs.declared.command.Command.{Command}
use Rattle.sourcemap_cli.specs.declared.command.Command.TheVariants.{Lookup, Tokens, Rewrite, Flatten, Compose, Shift, Trace, Compile, Check}
use Rattle.sourcemap_cli.specs.declared.checking.Checking.{Checking}
use Rattle.sourcemap_cli.specs.declared.program.Reply.{Reply}

abbrev pub usage_text : List ℕ
usage_text =
    codes "usage: lookup [--from-1] LINE COL | tokens | rewrite | flatten | compose FILE | shift ROWS"
    ++ codes " | trace [--from-1] FILE | compile [--without-contents]"
    ++ codes " | check [--json] [--strict] [--generated FILE] [--name NAME] [--sources DIR]" ++ newline

-- the text of a token, with its original line and column counted from `first`; `none` if there is no token
abbrev pub found_text : (first : ℕ) → Option TokenValue → List ℕ
found_text first found = meaning_text first (option_map says found)

-- the mark after the text of a token: ` range` for a range token, otherwise empty
abbrev pub range_mark : TokenValue → List ℕ
range_mark t = if t.raw.is_range then codes " range" else []

-- the line that is printed for a token: its generated position, its text, and whether it is a range token
abbrev pub token_line : TokenValue → List ℕ
token_line t =
    decimal t.raw.dst_line ++ codes ":" ++ decimal t.raw.dst_col ++ codes " "
    ++ token_text (says t) ++ range_mark t ++ newline

-- the line that is printed for a lookup: the text of the closest token, or `none`. For an index map with unsorted
-- sections, the line may have the text of any token, or `none`. The position counts from 0, the text from `first`
abbrev pub IsLookupLine : (first : ℕ) → MapTree → ℕ × ℕ → List ℕ → Type 0
IsLookupLine first t p text =
    (found : Option TokenValue) × (text ≡ found_text first found ++ newline) × (IsInOrder t → found ≡ lookup t p)

-- the compact JSON text of a map, and a newline
abbrev pub IsJsonLine : MapTree → List ℕ → Type 0
IsJsonLine t text = (json : List ℕ) × IsTextOf t json × (text ≡ json ++ newline)

abbrev pub PrintsMap : MapTree → Result (List ℕ) Error → Type 0
PrintsMap t answer = IsOkAnd answer (IsJsonLine t)

-- the index map with each section moved down by this many lines, printed as JSON; `IncompatibleSourceMap` if a section
-- would move past line 4294967295
abbrev pub ShiftAnswer : ℕ → IndexParts → List MapSection → Result (List ℕ) Error → Type 0
ShiftAnswer rows parts ss answer =
    (HaveRowsLeft rows ss × PrintsMap (index parts (sections_from (shifted rows ss))) answer)
    ⊎ ((¬ HaveRowsLeft rows ss) × (answer ≡ Err IncompatibleSourceMap))

-- a map that is not regular
abbrev pub IsNotRegular : MapTree → Type 0
IsNotRegular (leaf (regular _)) = ⊥
IsNotRegular _ = Unit {0}

-- a map that is not an index map
abbrev pub IsNotIndex : MapTree → Type 0
IsNotIndex (index _ _) = ⊥
IsNotIndex _ = Unit {0}

-- a regular map adjusted by a second regular map, or the error of adjusting it; `IncompatibleSourceMap` if either map
-- is of another kind, or if there is no second map
abbrev pub adjusted_by : MapTree → Option MapTree → Result MapValue Error
adjusted_by (leaf (regular m)) (Some (leaf (regular n))) = adjusted m n
adjusted_by _ _ = Err IncompatibleSourceMap

-- a regular map or a Hermes map rewritten with default options
abbrev pub rewritten_leaf : LeafMap → LeafMap
rewritten_leaf (regular m) = regular (rewritten no_removal m)
rewritten_leaf (hermes h) = hermes (hermes_rewritten no_removal h)

-- the answers to the positions in a file, counted from `first`, where `says` gives the meaning of a position. If the
-- file could not be read, the result is the read error
abbrev pub traced : (first : ℕ) → (says : ℕ × ℕ → Option Meaning) → (file : Result (List ℕ) Error)
    → Result (List ℕ) Error
traced first says (Ok positions) = Ok (trace_from first says positions)
traced first says (Err e) = Err e

-- the output of a command for a map, or the error of the command; `compose` also takes an adjustment. A map of the
-- wrong kind is reported before other errors. `Returns` is false for `trace`, which also needs positions (see
-- `ReturnsWithFile`). `compile` and `check` (see `ReturnsElse`) print nothing of a decoded
-- map, and are refused
abbrev pub Returns : Command → MapTree → Option MapTree → Result (List ℕ) Error → Type 0
Returns (Lookup counting line col) t _ answer = IsOkAnd answer (IsLookupLine (first_of counting) t (line, col))
Returns Tokens (leaf l) _ answer = answer ≡ Ok (flat_map token_line (tokens_from (held l) 0))
Returns Tokens (index _ _) _ answer = answer ≡ Err IncompatibleSourceMap
Returns Rewrite (leaf l) _ answer = PrintsMap (leaf (rewritten_leaf l)) answer
Returns Rewrite (index _ _) _ answer = answer ≡ Err IncompatibleSourceMap
Returns Flatten (leaf _) _ answer = answer ≡ Err IncompatibleSourceMap
Returns Flatten (index parts ss) _ answer =
    Then (FlatAnswer (index parts ss)) (λ m a. PrintsMap (leaf (regular m)) a) answer
Returns (Compose _) t adjustment answer =
    Then (λ a. a ≡ adjusted_by t adjustment) (λ m a. PrintsMap (leaf (regular m)) a) answer
Returns (Shift _) (leaf _) _ answer = answer ≡ Err IncompatibleSourceMap
Returns (Shift rows) (index parts ss) _ answer = ShiftAnswer rows parts (section_list ss) answer
Returns (Trace _ _) _ _ _ = ⊥
Returns (Compile _) _ _ answer = answer ≡ Err IncompatibleSourceMap
Returns (Check _) _ _ answer = answer ≡ Err IncompatibleSourceMap

-- a file decodes to this map or to this error; the file is given as its bytes, or as the error of reading it
abbrev pub FileDecodes : Result (List ℕ) Error → Result MapTree Error → Type 0
FileDecodes (Ok bytes) decoded = BytesDecode bytes decoded
FileDecodes (Err e) decoded = decoded ≡ Err e

-- the output of a command for a map, or the first error; the file holds the adjustment of `compose` or the positions
-- of `trace`
abbrev pub ReturnsWithFile : Result (List ℕ) Error → Command → MapTree → Result (List ℕ) Error → Type 0
ReturnsWithFile file (Compose path) t answer =
    Then (FileDecodes file) (λ other a. Returns (Compose path) t (Some other) a) answer
ReturnsWithFile file (Trace counting _) t answer = answer ≡ traced (first_of counting) (meaning t) file
ReturnsWithFile file command t answer = Returns command t None answer

-- the output of a command for the map in `bytes`, or the first error. Errors are checked in this order: decoding
-- `bytes`; reading the file; decoding the file of `compose`; the command. Only `compose` and `trace` use the file
abbrev pub ReturnsOnBytes : Command → (bytes : List ℕ) → (file : Result (List ℕ) Error) → Result (List ℕ) Error → Type 0
ReturnsOnBytes command bytes file answer = Then (BytesDecode bytes) (λ t a. ReturnsWithFile file command t a) answer

-- whether a command is applied to the map that the bytes decode to. `compile` and `check` are not, and neither is a
-- lookup or a trace of bytes that begin as a compiled map
abbrev pub is_applied : Command → (bytes : List ℕ) → Bool
is_applied (Lookup _ _ _) bytes = not (is_compiled bytes)
is_applied (Trace _ _) bytes = not (is_compiled bytes)
is_applied (Compile _) bytes = false
is_applied (Check _) bytes = false
is_applied _ bytes = true

-- the check of these bytes passes or not, and this text is its report
abbrev pub Checks : (passing : Bool) → Checking → (bytes : List ℕ) → (generated : Option (List ℕ)) → Files
    → (text : List ℕ) → Type 0
Checks passing checking bytes generated files text =
    Judges passing checking bytes generated files × IsReportOf checking.form bytes generated (name_in checking) files text

-- the output of a command that is not applied to a decoded map. A compiled map is looked up only if it is sound
abbrev pub ReturnsElse : Command → (bytes : List ℕ) → (file : Result (List ℕ) Error) → Result (List ℕ) Error → Type 0
ReturnsElse (Lookup counting line col) bytes file answer =
    IsSound bytes × (answer ≡ Ok (compiled_line (first_of counting) bytes (line, col)))
ReturnsElse (Trace counting _) bytes file answer =
    IsSound bytes × (answer ≡ traced (first_of counting) (compiled_says bytes) file)
ReturnsElse (Compile contents) bytes file answer = Then (BytesDecode bytes) (λ t a. CompilesTo contents t a) answer
ReturnsElse (Check checking) bytes file answer =
    Then (ReadsGenerated (is_some checking.generated) file)
    (λ generated a. Then (ReadsFiles (is_some checking.sources) bytes)
    (λ files b. IsOkAnd b (Checks true checking bytes generated files)) a) answer
ReturnsElse _ bytes file answer = ⊥

-- the output of a command, or the first error
abbrev pub ReturnsBy : (applied : Bool) → Command → (bytes : List ℕ) → (file : Result (List ℕ) Error)
    → Result (List ℕ) Error → Type 0
ReturnsBy true command bytes file answer = ReturnsOnBytes command bytes file answer
ReturnsBy false command bytes file answer = ReturnsElse command bytes file answer

-- a command that is not applied to a decoded map is refused with this text: the compiled map is damaged, the map is too
-- large to be compiled, or the check fails
abbrev pub Refuses : Command → (bytes : List ℕ) → (file : Result (List ℕ) Error) → (text : List ℕ) → Type 0
Refuses (Lookup _ _ _) bytes file text = IsRefusedCompiled bytes text
Refuses (Trace _ _) bytes file text = IsRefusedCompiled bytes text
Refuses (Compile contents) bytes file text = IsTooLarge contents bytes text
Refuses (Check checking) bytes file text =
    (generated : Option (List ℕ)) × ReadsGenerated (is_some checking.generated) file (Ok generated)
    × ((files : Files) × ReadsFiles (is_some checking.sources) bytes (Ok files)
    × Checks false checking bytes generated files text)
Refuses _ bytes file text = ⊥

-- Definitions for runs that are given words and the bytes of a map. For `compose` and `trace`, a run is also given the
-- bytes of a file, or the error of reading it.

-- words that are no command
abbrev pub AskForNone : List (List ℕ) → Type 0
AskForNone words = (command : Command) → ¬ AskFor words command

-- how a run ends: with the answer to a command, with a refusal of this text, or with the usage
pub data Ending : Type 0 where
  answered : Result (List ℕ) Error → Ending
  rejected : List ℕ → Ending
  misused : Ending

-- a command on these bytes and this file has this ending
abbrev pub EndsOn : Command → (bytes : List ℕ) → (file : Result (List ℕ) Error) → Ending → Type 0
EndsOn command bytes file (answered answer) = ReturnsBy (is_applied command bytes) command bytes file answer
EndsOn command bytes file (rejected text) = (is_applied command bytes ≡ false) × Refuses command bytes file text
EndsOn command bytes file misused = ⊥

-- a run with these words, these bytes and this file has this ending
abbrev pub Ends : List (List ℕ) → (bytes : List ℕ) → (file : Result (List ℕ) Error) → Ending → Type 0
Ends words bytes file misused = AskForNone words
Ends words bytes file ending = (command : Command) × AskFor words command × EndsOn command bytes file ending

-- the words ask for no command but one that is applied to the map that the bytes decode to
abbrev pub AreApplied : List (List ℕ) → (bytes : List ℕ) → Type 0
AreApplied words bytes = (command : Command) → AskFor words command → is_applied command bytes ≡ true

-- the text of an error and a newline. For an error of std (`Io`, `Utf8`), any text is allowed, because std specifies
-- no text
abbrev pub IsRefusal : Error → List ℕ → Type 0
IsRefusal e text = IsLineOf (error_text e) text

abbrev pub status_of : Ending → ℕ
status_of (answered (Ok _)) = 0
status_of (answered (Err _)) = 1
status_of (rejected _) = 1
status_of misused = 2

abbrev pub Prints : Ending → List ℕ → Type 0
Prints (answered (Ok text)) printed = printed ≡ text
Prints (answered (Err e)) printed = IsRefusal e printed
Prints (rejected text) printed = printed ≡ text
Prints misused printed = printed ≡ usage_text

-- the reply has the output and the status of the ending
abbrev pub IsReply : Ending → Reply → Type 0
IsReply ending reply = Prints ending reply.output.items × (reply.status ≡ status_of ending)

-- the reply has the output and the status of an ending of the command on these bytes and this file
abbrev pub RepliesOn : Command → (bytes : List ℕ) → (file : Result (List ℕ) Error) → Reply → Type 0
RepliesOn command bytes file reply = (ending : Ending) × EndsOn command bytes file ending × IsReply ending reply

-- the reply has the output and the status of an ending that `Ends` allows for these words, these bytes and this file
abbrev pub IsReplyTo : List (List ℕ) → (bytes : List ℕ) → (file : Result (List ℕ) Error) → Reply → Type 0
IsReplyTo words bytes file reply = (ending : Ending) × Ends words bytes file ending × IsReply ending reply

-- a reply with the displayed text of an error, and status 1
abbrev pub IsRefusedReply : (known : Option (List ℕ)) → Reply → Type 0
IsRefusedReply known reply = IsLineOf known reply.output.items × (reply.status ≡ 1)

-- the reply for what `compile` returned; there is no reply for `OutOfMemory`
abbrev pub IsCompileReply : Result (List ℕ) CompileError → Reply → Type 0
IsCompileReply (Ok bytes) reply = IsReply (answered (Ok bytes)) reply
IsCompileReply (Err TooLarge) reply = IsRefusedReply (compile_error_text TooLarge) reply
IsCompileReply (Err (Map e)) reply = (e ≢ OutOfMemory) × IsReply (answered (Err e)) reply

-- the reply for the answer to a command; there is no reply for `OutOfMemory`
abbrev pub IsReplyOf : Result (String Global) Error → Reply → Type 0
IsReplyOf (Ok text) reply = IsReply (answered (Ok (string_bytes text))) reply
IsReplyOf (Err e) reply = (e ≢ OutOfMemory) × IsReply (answered (Err e)) reply

-- Definitions for runs that read from a reader and write to a writer. A read may fail, and memory may run out. std does
-- not specify which bytes a read of a file returns, so `MayBeRead` allows any bytes.

-- the result of reading a file, with the bytes as a list instead of a buffer
abbrev pub file_read : Result (Vec ℕ Global) Error → Result (List ℕ) Error
file_read (Ok bytes) = Ok bytes.items
file_read (Err e) = Err e

-- what reading a file may return: bytes, the error `OutOfMemory`, or an `Io` error of opening or reading the file. This
-- `Io` error may have any kind except `OutOfMemory`
abbrev pub MayBeRead : Result (List ℕ) Error → Type 0
MayBeRead (Ok bytes) = Unit {0}
MayBeRead (Err e) = UnlessReadFails e ⊥

-- `P` holds for at least one result that reading a file may have
abbrev pub WithFile : (Result (List ℕ) Error → Type 0) → Type 0
WithFile P = (file : Result (List ℕ) Error) × MayBeRead file × P file

-- an error that a run may have instead of a reply. `OutOfMemory` is always allowed. If the words ask for a command, the
-- input is read, so an `Io` error of any kind except `OutOfMemory` is allowed too
abbrev pub IsCutShort : List (List ℕ) → Error → Type 0
IsCutShort words e = UnlessMemory e ((command : Command) × AskFor words command × UnlessReadFails e ⊥)

-- a run of the program with these words may have this ending: `Ends` allows the ending, or the ending is an error that
-- `IsCutShort` allows. `bytes` holds the bytes of standard input. If the words name a file, `file` is the result of
-- reading this file
abbrev pub MayEnd : List (List ℕ) → (bytes : List ℕ) → (file : Result (List ℕ) Error) → Ending → Type 0
MayEnd words bytes file (answered (Err e)) = Ends words bytes file (answered (Err e)) ⊎ IsCutShort words e
MayEnd words bytes file ending = Ends words bytes file ending

-- the text of this error and a newline were printed, or the text of `OutOfMemory` and a newline. The program prints the
-- text of `OutOfMemory` if the text of this error could not be allocated
abbrev pub PrintsRefusal : Error → Option (List ℕ) → Option (List ℕ) → Type 0
PrintsRefusal e old new = (reported : Error) × ((reported ≡ e) ⊎ (reported ≡ OutOfMemory))
    × ((printed : List ℕ) × IsRefusal reported printed × Appends old new printed)

-- `Ok reply`: the output of the reply was printed, and the run ended with the status of the reply. `Err e`: the error was
-- printed as `PrintsRefusal` states, and the run ended with status 1. `old` and `new` are the contents of standard
-- output before and after the run.
abbrev pub IsPrinted : Result Reply Error → ℕ → Option (List ℕ) → Option (List ℕ) → Type 0
IsPrinted (Ok reply) status old new =
    (status ≡ reply.status) × Appends old new reply.output.items
IsPrinted (Err e) status old new = (status ≡ 1) × PrintsRefusal e old new

-- an error of a writer
abbrev pub IsWriteError : Error → Type 0
IsWriteError e = (cause : IoError) × FromIo cause e

-- a run with these words ends with this status, and changes standard output from `old` to `new`. `input` holds the
-- bytes of standard input. If `input` is `None`, standard input may hold any bytes. Reading the file that the words
-- name may have any result that `MayBeRead` allows
abbrev pub Runs : List (List ℕ) → Option (List ℕ) → ℕ → Option (List ℕ) → Option (List ℕ) → Type 0
Runs words input status old new = Reading input (λ bytes. WithFile (λ file.
    (ending : Ending) × MayEnd words bytes file ending
    × (status ≡ status_of ending) × ((printed : List ℕ) × Prints ending printed × Appends old new printed)))
