-- If the results of calls are as specified, so is the reply. If the reply is as specified, so is the output of a run.
use Rattle.std.proofs.Common.{◌≡◌, ◌≢◌, ◌⊎◌, inl, inr, refl, sym, ap, subst, ◌∙◌, ℕ, List, [], ◌++◌, codes, Bool, true, false, if◌then◌else◌, Option, Some, None, is_some, option_map, Result, Ok, Err, IfSome, IsOkAnd, MatchOption, MatchResult, IfOk, string_bytes, String, Global, Vec}
use Rattle.std.specs.IoError.{error_kind}
use Rattle.std.specs.declared.io.Error.{Error as IoError}
use Rattle.std.specs.declared.io.ErrorKind.TheVariants.{OutOfMemory as NoMemory}
use Rattle.sourcemap.specs.Answer.{UnlessMemory, Gives, IsAnswer}
use Rattle.sourcemap.specs.Decoder.{AreSame, BytesDecode, Reading, UnlessReadFails}
use Rattle.sourcemap.specs.Jsontypes.{Tree, record_of}
use Rattle.sourcemap.specs.Reading.{IsSameError}
use Rattle.sourcemap.specs.Errors.{error_text, FromIo}
use Rattle.sourcemap.specs.Flat.{FlatAnswer}
use Rattle.sourcemap.specs.Shift.{HaveRowsLeft, shifted}
use Rattle.sourcemap.specs.Token.{TokenValue, says}
use Rattle.sourcemap.specs.TreeDecoder.{Then, TreeDecodes}
use Rattle.sourcemap.specs.Trees.{LeafMap, regular, hermes, MapTree, leaf, index, IndexParts, IndexValue, index_tree, MapSection, section_list, sections_from, lookup, IsInOrder}
use Rattle.sourcemap.specs.Types.{MapValue}
use Rattle.sourcemap.specs.declared.errors.Error.{Error}
use Rattle.sourcemap.specs.declared.errors.Error.TheVariants.{BadJson, CannotFlatten, IncompatibleSourceMap, Io, OutOfMemory}
use Rattle.sourcemap_trace.specs.Positions.{first_of}
use Rattle.sourcemap_trace.specs.Trace.{meaning_text}
use Rattle.sourcemap_trace.specs.declared.positions.Counting.{Counting}
use Rattle.sourcemap_compiled.specs.Errors.{error_text as fault_text}
use Rattle.sourcemap_compiled.specs.Soundness.{IsSound}
use Rattle.sourcemap_compiled.specs.declared.errors.CompiledMapError.{CompiledMapError}
use Rattle.sourcemap_cache.specs.Compile.{CompileAnswer}
use Rattle.sourcemap_cache.specs.declared.errors.CompileError.{CompileError}
use Rattle.sourcemap_cache.specs.declared.errors.CompileError.TheVariants.{Map, TooLarge}
use Rattle.sourcemap_cache.specs.declared.parts.WithContents.{WithContents}
use Rattle.sourcemap_check_suspicious.specs.Suspects.{Files}
use Rattle.sourcemap_cli.specs.Checks.{IsReportReply, ReadsFiles, ReadsGenerated, passes}
use Rattle.sourcemap_cli.specs.declared.checking.Checking.{Checking}
use Rattle.sourcemap_trace.specs.Asked.{compiled_says}
use Rattle.sourcemap_cli.specs.Command.{AskFor, IsOfMaps, IsQuestion, IsSameCommand, TakesAdjustment}
use Rattle.sourcemap_cli.specs.Compiled.{IsFaultOf, compiled_line}
use Rattle.sourcemap_cli.specs.Lines.{newline}
use Rattle.sourcemap_cli.specs.Program.{AreApplied, AskForNone, ReturnsBy, ReturnsElse, ReturnsOnBytes, Ending, answered, rejected, misused, Ends, EndsOn, is_applied, IsCompileReply, IsRefusedReply, RepliesOn, FileDecodes, MayBeRead, MayEnd, IsCutShort, IsReply, IsReplyOf, IsReplyTo, IsPrinted, IsRefusal, IsWriteError, IsLookupLine, IsJsonLine, IsNotIndex, PrintsMap, Runs, Returns, ReturnsWithFile, ShiftAnswer, WithFile, adjusted_by, file_read, found_text, rewritten_leaf, traced}
use Rattle.sourcemap_cli.specs.declared.command.Command.{Command}
use Rattle.sourcemap_cli.specs.declared.command.Command.TheVariants.{Check, Compile, Compose, Flatten, Lookup, Rewrite, Shift, Tokens, Trace}
use Rattle.sourcemap_cli.specs.declared.program.Reply.{Reply}
use Rattle.sourcemap_errors.proofs.AnswerLemmas.{UnlessMemory-weaker, UnlessMemory-from}
use Rattle.sourcemap_index.proofs.DecodeLemmas.{bytes_decode_once}
use Rattle.sourcemap_index.proofs.WrittenValueLemmas.{written_text_once}
use Rattle.sourcemap.specs.declared.errors.JsonFault.TheVariants.{Shape}
use Rattle.sourcemap_index_model.proofs.MapTreeLemmas.{section_list-from}
use Rattle.sourcemap_index_model.proofs.WellFormedLemmas.{decoded_well, well_formed_in_order}
use Rattle.sourcemap_cli.proofs.CommandLemmas.{command_once}

-- if `e` is `OutOfMemory`, `UnlessMemory e P` holds for any `P`. If `e` is another error, `UnlessMemory e P` implies
-- `P`
pub no_memory : (e : Error) (P : Type 0) → e ≡ OutOfMemory → UnlessMemory e P
no_memory e P is = rw is tt

with_memory : (e : Error) (P : Type 0) → e ≢ OutOfMemory → UnlessMemory e P → P
with_memory OutOfMemory P is h = absurd (is refl)
with_memory _ P is h = h

-- From the output of a command to the reply.

-- what is printed for a lookup depends on the meaning of the token that was found
found_text_of : {X : Type 0} (view : X → TokenValue) (first : ℕ) (found : Option X)
    → found_text first (option_map view found) ≡ meaning_text first (option_map (λ t. says (view t)) found)
found_text_of view first None = refl
found_text_of view first (Some t) = refl

pub returns_looked_up : {X : Type 0} (view : X → TokenValue) (counting : Counting) (line col : ℕ) (t : MapTree)
    (found : Option X) (r : Result (String Global) Error)
    → MatchResult r
    (λ text. string_bytes text ≡ meaning_text (first_of counting) (option_map (λ x. says (view x)) found) ++ newline)
    (λ e. e ≡ OutOfMemory)
    → (IsInOrder t → option_map view found ≡ lookup t (line, col))
    → IsAnswer string_bytes (Returns (Lookup counting line col) t None) r
returns_looked_up view counting line col t found (Ok text) is closest =
    (option_map view found, is ∙ ap (λ text. text ++ newline) (sym (found_text_of view (first_of counting) found)), closest)
returns_looked_up view counting line col t found (Err e) is closest =
    no_memory e (Returns (Lookup counting line col) t None (Err e)) is

-- if `r` is a JSON line of `t` or the error `OutOfMemory`, then `r` is an answer that `PrintsMap t` allows
prints_map : (t : MapTree) (r : Result (String Global) Error)
    → MatchResult r (λ text. IsJsonLine t (string_bytes text)) (λ e. e ≡ OutOfMemory)
    → IsAnswer string_bytes (PrintsMap t) r
prints_map t (Ok text) h = h
prints_map t (Err e) h = no_memory e (PrintsMap t (Err e)) h

pub returns_rewritten : (l new : LeafMap) (t : MapTree) (r : Result (String Global) Error) → new ≡ rewritten_leaf l
    → t ≡ leaf new
    → MatchResult r (λ text. IsJsonLine t (string_bytes text)) (λ e. e ≡ OutOfMemory)
    → IsAnswer string_bytes (Returns Rewrite (leaf l) None) r
returns_rewritten l new t r is of h =
    subst (λ x. IsAnswer string_bytes (PrintsMap x) r) (of ∙ ap leaf is) (prints_map t r h)

-- if the first step succeeds, the result is that of the second step; else it is the error of the first step
then_made : {X : Type 0} (First : Result X Error → Type 0) (Next : X → Result (List ℕ) Error → Type 0) (x : X)
    (r : Result (String Global) Error) → First (Ok x) → IsAnswer string_bytes (Next x) r
    → IsAnswer string_bytes (Then First Next) r
then_made First Next x (Ok text) first h = inl (x, first, h)
then_made First Next x (Err e) first h = UnlessMemory-weaker e (λ says. inl (x, first, says)) h

then_refused : {X : Type 0} (First : Result X Error → Type 0) (Next : X → Result (List ℕ) Error → Type 0) (e : Error)
    → UnlessMemory e (First (Err e)) → UnlessMemory e (Then First Next (Err e))
then_refused First Next e h = UnlessMemory-weaker e (λ refused. inr refused) h

then_prints : (First : Result MapValue Error → Type 0) (m : MapValue) (t : MapTree) (r : Result (String Global) Error)
    → First (Ok m) → t ≡ leaf (regular m)
    → MatchResult r (λ text. IsJsonLine t (string_bytes text)) (λ e. e ≡ OutOfMemory)
    → IsAnswer string_bytes (Then First (λ m a. PrintsMap (leaf (regular m)) a)) r
then_prints First m t r made of h =
    then_made First (λ m a. PrintsMap (leaf (regular m)) a) m r made
    (subst (λ x. IsAnswer string_bytes (PrintsMap x) r) of (prints_map t r h))

pub returns_flat : (i : IndexValue) (m : MapValue) (t : MapTree) (r : Result (String Global) Error)
    → FlatAnswer (index_tree i) (Ok m) → t ≡ leaf (regular m)
    → MatchResult r (λ text. IsJsonLine t (string_bytes text)) (λ e. e ≡ OutOfMemory)
    → IsAnswer string_bytes (Returns Flatten (index_tree i) None) r
returns_flat i m t r made of h = then_prints (FlatAnswer (index_tree i)) m t r made of h

pub returns_no_flat : (i : IndexValue) (e : Error) → UnlessMemory e (FlatAnswer (index_tree i) (Err e))
    → UnlessMemory e (Returns Flatten (index_tree i) None (Err e))
returns_no_flat i e h = then_refused (FlatAnswer (index_tree i)) (λ m a. PrintsMap (leaf (regular m)) a) e h

pub returns_adjusted : (path : String Global) (t : MapTree) (other : Option MapTree) (m : MapValue) (u : MapTree)
    (r : Result (String Global) Error) → adjusted_by t other ≡ Ok m → u ≡ leaf (regular m)
    → MatchResult r (λ text. IsJsonLine u (string_bytes text)) (λ e. e ≡ OutOfMemory)
    → IsAnswer string_bytes (Returns (Compose path) t other) r
returns_adjusted path t other m u r made of h = then_prints (λ a. a ≡ adjusted_by t other) m u r (sym made) of h

pub returns_no_adjusted : (path : String Global) (t : MapTree) (other : Option MapTree) (e : Error)
    → UnlessMemory e (adjusted_by t other ≡ Err e) → UnlessMemory e (Returns (Compose path) t other (Err e))
returns_no_adjusted path t other e h =
    then_refused (λ a. a ≡ adjusted_by t other) (λ m a. PrintsMap (leaf (regular m)) a) e
    (UnlessMemory-weaker e (λ is. sym is) h)

none_adjusted : (t : MapTree) → adjusted_by t None ≡ Err IncompatibleSourceMap
none_adjusted (leaf (regular m)) = refl
none_adjusted (leaf (hermes h)) = refl
none_adjusted (index parts ss) = refl

-- only `compose` takes a second map
pub says_of_two : {X : Type 0} (x : X) (command : Command) (t u : MapTree) (r : Result (String Global) Error)
    → TakesAdjustment command (Some x)
    → ((path : String Global) → IsAnswer string_bytes (Returns (Compose path) t (Some u)) r)
    → IsAnswer string_bytes (Returns command t (Some u)) r
says_of_two x (Compose path) t u r takes h = h path
says_of_two x command t u r takes h = absurd cc

-- the tree of `i` has the sections of `i`, so an answer for shifting these sections is an answer for shifting the tree
returns_shift : (rows : ℕ) (i : IndexValue) (answer : Result (List ℕ) Error)
    → ShiftAnswer rows i.parts i.sections answer
    → Returns (Shift rows) (index_tree i) None answer
returns_shift rows i answer h = subst (λ ss. ShiftAnswer rows i.parts ss answer) (sym (section_list-from i.sections)) h

pub returns_shifted : (rows : ℕ) (i : IndexValue) (t : MapTree) (r : Result (String Global) Error)
    → HaveRowsLeft rows i.sections
    → t ≡ index i.parts (sections_from (shifted rows i.sections))
    → MatchResult r (λ text. IsJsonLine t (string_bytes text)) (λ e. e ≡ OutOfMemory)
    → IsAnswer string_bytes (Returns (Shift rows) (index_tree i) None) r
returns_shifted rows i t (Ok text) left of h =
    returns_shift rows i (Ok (string_bytes text)) (inl (left, subst (λ x. IsJsonLine x (string_bytes text)) of h))
returns_shifted rows i t (Err e) left of h = no_memory e (Returns (Shift rows) (index_tree i) None (Err e)) h

pub returns_no_shift : (rows : ℕ) (i : IndexValue) → ¬ HaveRowsLeft rows i.sections
    → Returns (Shift rows) (index_tree i) None (Err IncompatibleSourceMap)
returns_no_shift rows i past = returns_shift rows i (Err IncompatibleSourceMap) (inr (past, refl))

-- flattening a map that is not an index map is an error
pub no_index_flat : (t : MapTree) (e : Error) → (e ≡ IncompatibleSourceMap) × IsNotIndex t
    → UnlessMemory e (Returns Flatten t None (Err e))
no_index_flat (leaf l) e (is, other) = rw is refl
no_index_flat (index parts ss) e (is, other) = absurd other

-- shifting a map that is not an index map is an error
pub no_index_shift : (rows : ℕ) (t : MapTree) (e : Error) → (e ≡ IncompatibleSourceMap) × IsNotIndex t
    → UnlessMemory e (Returns (Shift rows) t None (Err e))
no_index_shift rows (leaf l) e (is, other) = rw is refl
no_index_shift rows (index parts ss) e (is, other) = absurd other

-- every command but `trace` needs only maps
pub of_maps : (command : Command) → ((counting : Counting) (path : String Global) → command ≢ Trace counting path)
    → IsOfMaps command
of_maps (Trace counting path) other = absurd (other counting path refl)
of_maps command other = tt

-- Reading a file.

pub with_file : (P Q : Result (List ℕ) Error → Type 0)
    → ((file : Result (List ℕ) Error) → P file → Q file) → WithFile P → WithFile Q
with_file P Q f (file, may, h) = (file, may, f file h)

any_file : (P : Result (List ℕ) Error → Type 0) → ((file : Result (List ℕ) Error) → P file) → WithFile P
any_file P f = (Ok [], tt, f (Ok []))

pub may_be_read : (known : Option (List ℕ)) (r : Result (Vec ℕ Global) Error)
    → MatchResult r (λ bytes. IfSome known (λ xs. bytes.items ≡ xs)) (λ e. UnlessReadFails e ⊥)
    → MayBeRead (file_read r)
may_be_read known (Ok bytes) h = tt
may_be_read known (Err e) h = h

-- an error of opening a file is among the errors that `UnlessReadFails` allows
pub may_not_open : (cause : IoError) (e : Error) → FromIo cause e → UnlessReadFails e ⊥
may_not_open cause OutOfMemory h = tt
may_not_open cause (Io kept) (same, other) = inr (refl, subst (λ x. error_kind x ≢ NoMemory) (sym same) other)
may_not_open cause e h = absurd h

-- a result that `Gives` states is an answer that is due
pub answers_due : (r : Result (String Global) Error) (due : Result (List ℕ) Error) → Gives string_bytes r due
    → IsAnswer string_bytes (λ a. a ≡ due) r
answers_due (Ok text) due h = sym h
answers_due (Err e) due h = UnlessMemory-weaker e (λ is. sym is) h

-- if the file decodes to `u`, `compose` adjusts `t` by `u`. If the file cannot be read or decoded, `compose` returns
-- the error (`composes_with_none`)
pub composes_with : (path : String Global) (file : Result (List ℕ) Error) (t u : MapTree) (r : Result (String Global) Error)
    → FileDecodes file (Ok u) → IsAnswer string_bytes (Returns (Compose path) t (Some u)) r
    → IsAnswer string_bytes (ReturnsWithFile file (Compose path) t) r
composes_with path file t u r is h =
    then_made (FileDecodes file) (λ other a. Returns (Compose path) t (Some other) a) u r is h

pub composes_with_none : (path : String Global) (file : Result (List ℕ) Error) (t : MapTree) (e : Error)
    → UnlessMemory e (FileDecodes file (Err e)) → UnlessMemory e (ReturnsWithFile file (Compose path) t (Err e))
composes_with_none path file t e is =
    then_refused (FileDecodes file) (λ other a. Returns (Compose path) t (Some other) a) e is

-- only `compose` and `trace` use the file. Any other command has the same output with and without a file
pub returns_without_file : (file : Result (List ℕ) Error) (command : Command) (t : MapTree) (r : Result (String Global) Error)
    → ((path : String Global) → command ≢ Compose path)
    → ((counting : Counting) (path : String Global) → command ≢ Trace counting path)
    → IsAnswer string_bytes (Returns command t None) r → IsAnswer string_bytes (ReturnsWithFile file command t) r
returns_without_file file (Compose path) t r other none h = absurd (other path refl)
returns_without_file file (Trace counting path) t r other none h = absurd (none counting path refl)
returns_without_file file command t r other none h = h

-- if `bytes` decode to `m`, the output of a command for `bytes` is the output for `m`
pub returns_on_map : (file : Result (List ℕ) Error) (command : Command) (bytes : List ℕ) (m : MapTree)
    (r : Result (String Global) Error) → BytesDecode bytes (Ok m)
    → IsAnswer string_bytes (ReturnsWithFile file command m) r
    → IsAnswer string_bytes (ReturnsOnBytes command bytes file) r
returns_on_map file command bytes m r stand says =
    then_made (BytesDecode bytes) (λ t a. ReturnsWithFile file command t a) m r stand says

-- if decoding `bytes` returns the error `e`, a command returns `e`, whatever the file is
pub returns_on_no_map : (file : Result (List ℕ) Error) (command : Command) (bytes : List ℕ) (e : Error)
    → UnlessMemory e (BytesDecode bytes (Err e)) → UnlessMemory e (ReturnsOnBytes command bytes file (Err e))
returns_on_no_map file command bytes e h =
    then_refused (BytesDecode bytes) (λ t a. ReturnsWithFile file command t a) e h

pub returns_on_no_map_unread : (command : Command) (bytes : List ℕ) (e : Error)
    → UnlessMemory e (BytesDecode bytes (Err e))
    → WithFile (λ file. UnlessMemory e (ReturnsOnBytes command bytes file (Err e)))
returns_on_no_map_unread command bytes e h =
    any_file (λ file. UnlessMemory e (ReturnsOnBytes command bytes file (Err e)))
    (λ file. returns_on_no_map file command bytes e h)

-- the answer of a command that is applied to a decoded map
by_map : (applied : Bool) (command : Command) (bytes : List ℕ) (file : Result (List ℕ) Error)
    (answer : Result (String Global) Error) → applied ≡ true
    → IsAnswer string_bytes (ReturnsOnBytes command bytes file) answer
    → IsAnswer string_bytes (ReturnsBy applied command bytes file) answer
by_map true command bytes file answer is h = h
by_map false command bytes file answer is h = absurd cc

-- the answer of any other command
pub by_else : (applied : Bool) (command : Command) (bytes : List ℕ) (file : Result (List ℕ) Error)
    (answer : Result (String Global) Error) → applied ≡ false
    → IsAnswer string_bytes (ReturnsElse command bytes file) answer
    → IsAnswer string_bytes (ReturnsBy applied command bytes file) answer
by_else true command bytes file answer is h = absurd cc
by_else false command bytes file answer is h = h

-- the reply for the answer to a command
pub reply_of_answer : (command : Command) (bytes : List ℕ) (file : Result (List ℕ) Error)
    (answer : Result (String Global) Error) (r : Result Reply Error)
    → IsAnswer string_bytes (ReturnsBy (is_applied command bytes) command bytes file) answer
    → MatchResult r (IsReplyOf answer) (λ e. e ≡ OutOfMemory)
    → MatchResult r (RepliesOn command bytes file) (λ e. e ≡ OutOfMemory)
reply_of_answer command bytes file answer (Err e) given is = is
reply_of_answer command bytes file (Ok text) (Ok reply) given is = (answered (Ok (string_bytes text)), given, is)
reply_of_answer command bytes file (Err e) (Ok reply) given is =
    (answered (Err e), with_memory e (EndsOn command bytes file (answered (Err e))) is.0 given, is.1)

pub reply_of_map : (command : Command) (bytes : List ℕ) (file : Result (List ℕ) Error)
    (answer : Result (String Global) Error) (r : Result Reply Error) → is_applied command bytes ≡ true
    → IsAnswer string_bytes (ReturnsOnBytes command bytes file) answer
    → MatchResult r (IsReplyOf answer) (λ e. e ≡ OutOfMemory)
    → MatchResult r (RepliesOn command bytes file) (λ e. e ≡ OutOfMemory)
reply_of_map command bytes file answer r applied given is =
    reply_of_answer command bytes file answer r
    (by_map (is_applied command bytes) command bytes file answer applied given) is

pub reply_of_read_map : (command : Command) (bytes : List ℕ) (answer : Result (String Global) Error)
    (r : Result Reply Error) → is_applied command bytes ≡ true
    → WithFile (λ file. IsAnswer string_bytes (ReturnsOnBytes command bytes file) answer)
    → MatchResult r (IsReplyOf answer) (λ e. e ≡ OutOfMemory)
    → WithFile (λ file. MatchResult r (RepliesOn command bytes file) (λ e. e ≡ OutOfMemory))
reply_of_read_map command bytes answer r applied given is =
    with_file (λ file. IsAnswer string_bytes (ReturnsOnBytes command bytes file) answer)
    (λ file. MatchResult r (RepliesOn command bytes file) (λ e. e ≡ OutOfMemory))
    (λ file says. reply_of_map command bytes file answer r applied says is) given

-- the answers of a compiled map
pub asked_line : (counting : Counting) (line col : ℕ) (bytes : List ℕ) (file : Result (List ℕ) Error)
    (r : Result (String Global) Error) → IsSound bytes
    → Gives string_bytes r (Ok (compiled_line (first_of counting) bytes (line, col)))
    → IsAnswer string_bytes (ReturnsElse (Lookup counting line col) bytes file) r
asked_line counting line col bytes file (Ok text) sound is = (sound, sym is)
asked_line counting line col bytes file (Err e) sound is = UnlessMemory-weaker e (λ wrong. (sound, sym wrong)) is

pub asked_trace : (counting : Counting) (path : String Global) (bytes : List ℕ) (file : Result (List ℕ) Error)
    (r : Result (String Global) Error) → IsSound bytes
    → IsAnswer string_bytes (λ a. a ≡ traced (first_of counting) (compiled_says bytes) file) r
    → IsAnswer string_bytes (ReturnsElse (Trace counting path) bytes file) r
asked_trace counting path bytes file (Ok text) sound is = (sound, is)
asked_trace counting path bytes file (Err e) sound is = UnlessMemory-weaker e (λ is. (sound, is)) is

pub no_question : (command : Command) → ((counting : Counting) (line col : ℕ) → command ≢ Lookup counting line col)
    → ((counting : Counting) (path : String Global) → command ≢ Trace counting path) → ¬ IsQuestion command
no_question (Lookup counting line col) no_lookup no_trace h = no_lookup counting line col refl
no_question (Trace counting path) no_lookup no_trace h = no_trace counting path refl
no_question command no_lookup no_trace h = h

-- a command that is not applied to a decoded map compiles, checks or asks
pub questions_left : (command : Command) (bytes : List ℕ) → is_applied command bytes ≡ false
    → ((contents : WithContents) → command ≢ Compile contents) → ((checking : Checking) → command ≢ Check checking)
    → IsQuestion command
questions_left (Lookup counting line col) bytes is no_compile no_check = tt
questions_left (Trace counting path) bytes is no_compile no_check = tt
questions_left (Compile contents) bytes is no_compile no_check = absurd (no_compile contents refl)
questions_left (Check checking) bytes is no_compile no_check = absurd (no_check checking refl)
questions_left command bytes is no_compile no_check = absurd cc

-- the reply for a report is that of `check`
pub reply_of_check : (checking : Checking) (bytes : List ℕ) (generated : Option (List ℕ)) (files : Files)
    (file : Result (List ℕ) Error) (r : Result Reply Error)
    → ReadsGenerated (is_some checking.generated) file (Ok generated)
    → ReadsFiles (is_some checking.sources) bytes (Ok files)
    → MatchResult r (IsReportReply checking bytes generated files) (λ e. e ≡ OutOfMemory)
    → MatchResult r (RepliesOn (Check checking) bytes file) (λ e. e ≡ OutOfMemory)
reply_of_check checking bytes generated files file (Err e) reads finds is = is
reply_of_check checking bytes generated files file (Ok reply) reads finds is =
    by_status (passes checking.strictness is.verdict) refl
  where
    by_status : (passing : Bool) → passes checking.strictness is.verdict ≡ passing
        → RepliesOn (Check checking) bytes file reply
    by_status true passing =
        let status : reply.status ≡ 0 = is.status_is ∙ ap (λ b. if b then 0 else 1) passing in (
          answered (Ok reply.output.items),
          inl (generated, reads, inl (files, finds, ((is.verdict, is.has_verdict, passing), is.report))),
          (refl, status),
        )
    by_status false failing =
        let status : reply.status ≡ 1 = is.status_is ∙ ap (λ b. if b then 0 else 1) failing in (
          rejected reply.output.items,
          (refl, (generated, reads, (files, finds, ((is.verdict, is.has_verdict, failing), is.report)))),
          (refl, status),
        )

-- or it reports that the files of sources were not read
pub reply_of_no_files : (checking : Checking) (bytes : List ℕ) (generated : Option (List ℕ)) (file : Result (List ℕ) Error)
    (e : Error) (r : Result Reply Error) → ReadsGenerated (is_some checking.generated) file (Ok generated)
    → ReadsFiles (is_some checking.sources) bytes (Err e) → MatchResult r (IsReplyOf (Err e)) (λ e. e ≡ OutOfMemory)
    → MatchResult r (RepliesOn (Check checking) bytes file) (λ e. e ≡ OutOfMemory)
reply_of_no_files checking bytes generated file e (Err f) reads fails is = is
reply_of_no_files checking bytes generated file e (Ok reply) reads fails is =
    (answered (Err e), inl (generated, reads, inr fails), is.1)

-- or that the generated text was not
pub reply_of_no_text : (checking : Checking) (bytes : List ℕ) (file : Result (List ℕ) Error) (e : Error)
    (r : Result Reply Error) → UnlessMemory e (ReadsGenerated (is_some checking.generated) file (Err e))
    → MatchResult r (IsReplyOf (Err e)) (λ e. e ≡ OutOfMemory)
    → MatchResult r (RepliesOn (Check checking) bytes file) (λ e. e ≡ OutOfMemory)
reply_of_no_text checking bytes file e (Err f) h is = is
reply_of_no_text checking bytes file e (Ok reply) h is =
    (answered (Err e), inr (with_memory e (ReadsGenerated (is_some checking.generated) file (Err e)) is.0 h), is.1)

-- a damaged compiled map is refused
pub reply_of_fault : (command : Command) (bytes : List ℕ) (file : Result (List ℕ) Error) (e : CompiledMapError)
    (r : Result Reply Error) → IsQuestion command → is_applied command bytes ≡ false → IsFaultOf bytes e
    → MatchResult r (IsRefusedReply (Some (fault_text e))) (λ e. e ≡ OutOfMemory)
    → MatchResult r (RepliesOn command bytes file) (λ e. e ≡ OutOfMemory)
reply_of_fault command bytes file e (Err f) asks unapplied fault is = is
reply_of_fault (Lookup counting line col) bytes file e (Ok reply) asks unapplied fault ((text, known, is), status) =
    (rejected reply.output.items, (unapplied, (e, fault, is ∙ ap (λ t. t ++ newline) known)), (refl, status))
reply_of_fault (Trace counting path) bytes file e (Ok reply) asks unapplied fault ((text, known, is), status) =
    (rejected reply.output.items, (unapplied, (e, fault, is ∙ ap (λ t. t ++ newline) known)), (refl, status))
reply_of_fault command bytes file e (Ok reply) asks unapplied fault is = absurd asks

-- `compile` replies with the file, or with the error of `sourcemap_cache::compile`
pub reply_of_compilation : (contents : WithContents) (bytes : List ℕ) (file : Result (List ℕ) Error) (t : MapTree)
    (compiled : Result (List ℕ) CompileError) (r : Result Reply Error) → BytesDecode bytes (Ok t)
    → CompileAnswer contents t compiled → MatchResult r (IsCompileReply compiled) (λ e. e ≡ OutOfMemory)
    → MatchResult r (RepliesOn (Compile contents) bytes file) (λ e. e ≡ OutOfMemory)
reply_of_compilation contents bytes file t compiled (Err e) decodes made is = is
reply_of_compilation contents bytes file t (Ok out) (Ok reply) decodes made is =
    (answered (Ok out), inl (t, decodes, made), is)
reply_of_compilation contents bytes file t (Err TooLarge) (Ok reply) decodes made is =
    (rejected reply.output.items, (refl, (t, decodes, made, is.0)), (refl, is.1))
reply_of_compilation contents bytes file t (Err (Map OutOfMemory)) (Ok reply) decodes made is = absurd (is.0 refl)
reply_of_compilation contents bytes file t (Err (Map (CannotFlatten reason))) (Ok reply) decodes made is =
    (answered (Err (CannotFlatten reason)), inl (t, decodes, made), is.1)
reply_of_compilation contents bytes file t (Err (Map e)) (Ok reply) decodes made is = absurd made

pub reply_of_no_map : (contents : WithContents) (bytes : List ℕ) (file : Result (List ℕ) Error) (e : Error)
    (r : Result Reply Error) → UnlessMemory e (BytesDecode bytes (Err e))
    → MatchResult r (IsReplyOf (Err e)) (λ e. e ≡ OutOfMemory)
    → MatchResult r (RepliesOn (Compile contents) bytes file) (λ e. e ≡ OutOfMemory)
reply_of_no_map contents bytes file e (Err f) h is = is
reply_of_no_map contents bytes file e (Ok reply) h is =
    (answered (Err e), inr (with_memory e (BytesDecode bytes (Err e)) is.0 h), is.1)

-- words that ask for a command have its reply
pub reply_of_command : (words : List (List ℕ)) (bytes : List ℕ) (file : Result (List ℕ) Error) (command : Command)
    (r : Result Reply Error) → AskFor words command
    → MatchResult r (RepliesOn command bytes file) (λ e. e ≡ OutOfMemory)
    → MatchResult r (IsReplyTo words bytes file) (λ e. e ≡ OutOfMemory)
reply_of_command words bytes file command (Err e) asked is = is
reply_of_command words bytes file command (Ok reply) asked (answered a, ends, is) =
    (answered a, (command, asked, ends), is)
reply_of_command words bytes file command (Ok reply) asked (rejected text, ends, is) =
    (rejected text, (command, asked, ends), is)
reply_of_command words bytes file command (Ok reply) asked (misused, ends, is) = absurd ends

pub reply_of_read_command : (words : List (List ℕ)) (bytes : List ℕ) (command : Command) (r : Result Reply Error)
    → AskFor words command → WithFile (λ file. MatchResult r (RepliesOn command bytes file) (λ e. e ≡ OutOfMemory))
    → WithFile (λ file. MatchResult r (IsReplyTo words bytes file) (λ e. e ≡ OutOfMemory))
reply_of_read_command words bytes command r asked given =
    with_file (λ file. MatchResult r (RepliesOn command bytes file) (λ e. e ≡ OutOfMemory))
    (λ file. MatchResult r (IsReplyTo words bytes file) (λ e. e ≡ OutOfMemory))
    (λ file is. reply_of_command words bytes file command r asked is) given

-- the reply to words that are no command is the usage
pub reply_to_others : (file : Result (List ℕ) Error) (words : List (List ℕ)) (bytes : List ℕ) (r : Result Reply Error)
    → AskForNone words → MatchResult r (IsReply misused) (λ e. e ≡ OutOfMemory)
    → MatchResult r (IsReplyTo words bytes file) (λ e. e ≡ OutOfMemory)
reply_to_others file words bytes (Ok reply) none is = (misused, none, is)
reply_to_others file words bytes (Err e) none is = is

pub usage_for_others : (words : List (List ℕ)) (bytes : List ℕ) (r : Result Reply Error)
    → AskForNone words → MatchResult r (IsReply misused) (λ e. e ≡ OutOfMemory)
    → WithFile (λ file. MatchResult r (IsReplyTo words bytes file) (λ e. e ≡ OutOfMemory))
usage_for_others words bytes r none is =
    any_file (λ file. MatchResult r (IsReplyTo words bytes file) (λ e. e ≡ OutOfMemory))
    (λ file. reply_to_others file words bytes r none is)

-- Words, bytes and a file determine the reply, but for the texts of std's errors.

-- two results print alike if they are equal values, or errors `e` and `f` such that each text of `e` is also a text of
-- `f` (`IsRefusal`)
abbrev PrintAlike : {X : Type 0} → (a b : Result X Error) → Type 0
PrintAlike (Ok s) (Ok t) = s ≡ t
PrintAlike (Err e) (Err f) = (text : List ℕ) → IsRefusal e text → IsRefusal f text
PrintAlike _ _ = ⊥

equal_alike : {X : Type 0} (a b : Result X Error) → a ≡ b → PrintAlike a b
equal_alike (Ok s) b is = subst (PrintAlike (Ok s)) is refl
equal_alike (Err e) b is = subst (PrintAlike (Err e)) is (λ text h. h)

-- two results of `Then First Next` print alike if the results of `First` print alike, and the results of `Next` for the
-- same value print alike
then_alike : {X : Type 0} (First : Result X Error → Type 0) (Next : X → Result (List ℕ) Error → Type 0)
    → ((a b : Result X Error) → First a → First b → PrintAlike a b)
    → ((x : X) (a b : Result (List ℕ) Error) → First (Ok x) → Next x a → Next x b → PrintAlike a b)
    → (a b : Result (List ℕ) Error) → Then First Next a → Then First Next b → PrintAlike a b
then_alike First Next one next a b (inl (x, made, p)) (inl (y, made', q)) =
    let same : x ≡ y = one (Ok x) (Ok y) made made' in
    next y a b made' (subst (λ x. Next x a) same p) q
then_alike First Next one next (Err e) (Err f) (inr h) (inr k) = one (Err e) (Err f) h k
then_alike First Next one next a (Err f) (inl (x, made, p)) (inr k) = absurd (one (Ok x) (Err f) made k)
then_alike First Next one next a (Ok text) p (inr k) = absurd k
then_alike First Next one next (Err e) b (inr h) (inl (y, made, q)) = absurd (one (Err e) (Ok y) h made)
then_alike First Next one next (Ok text) b (inr h) q = absurd h

json_once : (t : MapTree) (a b : List ℕ) → IsJsonLine t a → IsJsonLine t b → a ≡ b
json_once t a b (j, of_a, is) (k, of_b, is') =
    is ∙ ap (λ json. json ++ newline) (written_text_once t j k of_a of_b) ∙ sym is'

maps_alike : (t : MapTree) (a b : Result (List ℕ) Error) → PrintsMap t a → PrintsMap t b → PrintAlike a b
maps_alike t (Ok a) (Ok b) p q = json_once t a b p q
maps_alike t (Err e) b p q = absurd p
maps_alike t (Ok a) (Err f) p q = absurd q

found_alike : (first : ℕ) (t : MapTree) (p : ℕ × ℕ) (a b : Result (List ℕ) Error) → IsInOrder t
    → IsOkAnd a (IsLookupLine first t p) → IsOkAnd b (IsLookupLine first t p) → PrintAlike a b
found_alike first t p (Ok a) (Ok b) ordered (x, is, of) (y, is', of') =
    is ∙ ap (λ found. found_text first found ++ newline) (of ordered ∙ sym (of' ordered)) ∙ sym is'
found_alike first t p (Err e) b ordered h k = absurd h
found_alike first t p (Ok a) (Err f) ordered h k = absurd k

-- two errors with the same `error_text` print alike
texts_alike : (e f : Error) → error_text e ≡ error_text f → (text : List ℕ) → IsRefusal e text → IsRefusal f text
texts_alike e f same text refused =
    (refused.0, subst (λ known. IfSome known (λ line. refused.0 ≡ line)) same refused.1, refused.2)

flat_once : (t : MapTree) (a b : Result MapValue Error) → FlatAnswer t a → FlatAnswer t b → PrintAlike a b
flat_once t (Ok m) (Ok n) h k = let both = sym h ∙ k in cc
flat_once t (Err (CannotFlatten e)) (Err (CannotFlatten f)) h k =
    let same : string_bytes e ≡ string_bytes f = let both = sym h ∙ k in cc in
    texts_alike (CannotFlatten e) (CannotFlatten f)
    (ap (λ reason. Some (codes "cannot flatten the indexed sourcemap: " ++ reason)) same)
flat_once t (Ok m) (Err (CannotFlatten f)) h k = absurd (let both = sym h ∙ k in cc)
flat_once t (Err (CannotFlatten e)) (Ok n) h k = absurd (let both = sym h ∙ k in cc)
flat_once t (Ok m) (Err f) h k = absurd k
flat_once t (Err (CannotFlatten e)) (Err f) h k = absurd k
flat_once t (Err e) b h k = absurd h

shift_alike : (rows : ℕ) (parts : IndexParts) (ss : List MapSection) (a b : Result (List ℕ) Error)
    → ShiftAnswer rows parts ss a
    → ShiftAnswer rows parts ss b → PrintAlike a b
shift_alike rows parts ss a b (inl (left, p)) (inl (left', q)) =
    maps_alike (index parts (sections_from (shifted rows ss))) a b p q
shift_alike rows parts ss a b (inr (past, is)) (inr (past', is')) = equal_alike a b (is ∙ sym is')
shift_alike rows parts ss a b (inl (left, p)) (inr (past, is)) = absurd (past left)
shift_alike rows parts ss a b (inr (past, is)) (inl (left, q)) = absurd (past left)

-- let `Next` print a regular map as a JSON line. If any two results of `First` print alike, any two results of `Then
-- First Next` print alike
prints_alike : (First : Result MapValue Error → Type 0)
    → ((a b : Result MapValue Error) → First a → First b → PrintAlike a b)
    → (a b : Result (List ℕ) Error) → Then First (λ m a. PrintsMap (leaf (regular m)) a) a
    → Then First (λ m a. PrintsMap (leaf (regular m)) a) b → PrintAlike a b
prints_alike First one a b p q =
    then_alike First (λ m a. PrintsMap (leaf (regular m)) a) one
    (λ m a b made p q. maps_alike (leaf (regular m)) a b p q) a b p q

-- let the sections of the map `t` be sorted. Any two results that `Returns` allows for the same `command`, `t` and
-- `other` print alike
returns_alike : (command : Command) (t : MapTree) (other : Option MapTree) (a b : Result (List ℕ) Error) → IsInOrder t
    → Returns command t other a → Returns command t other b → PrintAlike a b
returns_alike (Lookup counting line col) t other a b ordered p q =
    found_alike (first_of counting) t (line, col) a b ordered p q
returns_alike Tokens (leaf l) other a b ordered p q = equal_alike a b (p ∙ sym q)
returns_alike Tokens (index parts ss) other a b ordered p q = equal_alike a b (p ∙ sym q)
returns_alike Rewrite (leaf l) other a b ordered p q = maps_alike (leaf (rewritten_leaf l)) a b p q
returns_alike Rewrite (index parts ss) other a b ordered p q = equal_alike a b (p ∙ sym q)
returns_alike Flatten (leaf l) other a b ordered p q = equal_alike a b (p ∙ sym q)
returns_alike Flatten (index parts ss) other a b ordered p q =
    prints_alike (FlatAnswer (index parts ss)) (flat_once (index parts ss)) a b p q
returns_alike (Compose path) t other a b ordered p q =
    prints_alike (λ a. a ≡ adjusted_by t other) (λ a b h k. equal_alike a b (h ∙ sym k)) a b p q
returns_alike (Shift rows) (leaf l) other a b ordered p q = equal_alike a b (p ∙ sym q)
returns_alike (Shift rows) (index parts ss) other a b ordered p q = shift_alike rows parts (section_list ss) a b p q
returns_alike (Trace counting path) t other a b ordered p q = absurd p
returns_alike (Compile contents) t other a b ordered p q = equal_alike a b (p ∙ sym q)
returns_alike (Check checking) t other a b ordered p q = equal_alike a b (p ∙ sym q)

reply_alike : (a b : Result (List ℕ) Error) → PrintAlike a b → (reply : Reply) → IsReply (answered a) reply
    → IsReply (answered b) reply
reply_alike (Ok a) (Ok b) same reply is = (is.0 ∙ same, is.1)
reply_alike (Err e) (Err f) same reply (refusal, status) = (same reply.output.items refusal, status)
reply_alike (Ok a) (Err f) same reply is = absurd same
reply_alike (Err e) (Ok b) same reply is = absurd same

refusal_alike : (e f : Error) (text : List ℕ) → IsSameError e f → IsRefusal e text → IsRefusal f text
refusal_alike (Io e) (Io f) text same h = h
refusal_alike e f text same h = subst (λ x. IsRefusal x text) same h

-- two results that are the same (`AreSame`) print alike. Two `Io` errors of one kind count as the same, and any text is
-- allowed for an `Io` error
decoded_alike : (a b : Result MapTree Error) → AreSame a b → PrintAlike a b
decoded_alike (Ok t) (Ok u) same = same
decoded_alike (Err e) (Err f) same = λ text refused. refusal_alike e f text same refused
decoded_alike (Ok t) (Err f) same = absurd same
decoded_alike (Err e) (Ok u) same = absurd same

bytes_alike : (bytes : List ℕ) (a b : Result MapTree Error) → BytesDecode bytes a → BytesDecode bytes b → PrintAlike a b
bytes_alike bytes a b h k = decoded_alike a b (bytes_decode_once bytes a b h k)

file_alike : (file : Result (List ℕ) Error) (a b : Result MapTree Error) → FileDecodes file a → FileDecodes file b
    → PrintAlike a b
file_alike (Ok bytes) a b h k = bytes_alike bytes a b h k
file_alike (Err e) a b h k = equal_alike a b (h ∙ sym k)

returns_with_alike : (file : Result (List ℕ) Error) (command : Command) (t : MapTree) (a b : Result (List ℕ) Error)
    → IsInOrder t
    → ReturnsWithFile file command t a → ReturnsWithFile file command t b → PrintAlike a b
returns_with_alike file (Compose path) t a b ordered p q =
    then_alike (FileDecodes file) (λ other a. Returns (Compose path) t (Some other) a) (file_alike file)
    (λ other a b held p q. returns_alike (Compose path) t (Some other) a b ordered p q) a b p q
returns_with_alike file (Trace counting path) t a b ordered p q = equal_alike a b (p ∙ sym q)
returns_with_alike file command t a b ordered p q = returns_alike command t None a b ordered p q

-- a decoded map has sorted sections
bytes_in_order : (bytes : List ℕ) (t : MapTree) → BytesDecode bytes (Ok t) → IsInOrder t
bytes_in_order bytes t (inl (d, holds, stands)) = of_record (record_of d) stands
  where
    of_record : (found : Option Tree) → MatchOption found (Ok t ≡ Err (BadJson Shape)) (λ r. TreeDecodes r (Ok t))
        → IsInOrder t
    of_record None wrong = absurd cc
    of_record (Some r) is = well_formed_in_order t (decoded_well r t is)
bytes_in_order bytes t (inr none) = absurd none

-- commands that are the same (`IsSameCommand`) have the same output, even if the buffers of their paths differ
same_command : (c d : Command) (bytes : List ℕ) (file a : Result (List ℕ) Error) → IsSameCommand c d
    → ReturnsOnBytes c bytes file a → ReturnsOnBytes d bytes file a
same_command (Compose path) (Compose other) bytes file a same h = h
same_command (Trace counting path) (Trace counting' other) bytes file a (same, paths) h =
    subst (λ x. ReturnsOnBytes (Trace x path) bytes file a) same h
same_command (Check checking) (Check other) bytes file a same h = h
same_command c d bytes file a same h = subst (λ x. ReturnsOnBytes x bytes file a) same h

-- a command that is applied to a decoded map has its output for the map
applied_says : (command : Command) (bytes : List ℕ) (file answer : Result (List ℕ) Error)
    → is_applied command bytes ≡ true → EndsOn command bytes file (answered answer)
    → ReturnsOnBytes command bytes file answer
applied_says command bytes file answer is says = subst (λ applied. ReturnsBy applied command bytes file answer) is says

applied_refuses_none : (command : Command) (bytes : List ℕ) (file : Result (List ℕ) Error) (text : List ℕ)
    → is_applied command bytes ≡ true → ¬ EndsOn command bytes file (rejected text)
applied_refuses_none command bytes file text is (unapplied, says) = let both : true ≡ false = sym is ∙ unapplied in cc

pub replies_alike : (words : List (List ℕ)) (bytes : List ℕ) (file : Result (List ℕ) Error) (a b : Ending)
    → AreApplied words bytes → Ends words bytes file a → Ends words bytes file b
    → (reply : Reply) → IsReply a reply → IsReply b reply
replies_alike words bytes file (answered a) (answered b) applied (c, asked, ends) (d, asked', ends') reply is =
    let says = applied_says c bytes file a (applied c asked) ends in
    let says' = applied_says d bytes file b (applied d asked') ends' in
    let due = same_command d c bytes file b (command_once words d c asked' asked) says' in
    let both = then_alike (BytesDecode bytes) (λ t a. ReturnsWithFile file c t a) (bytes_alike bytes)
    (λ t a b held p q. returns_with_alike file c t a b (bytes_in_order bytes t held) p q) a b says due in
    reply_alike a b both reply is
replies_alike words bytes file (rejected text) b applied (c, asked, ends) q reply is =
    absurd (applied_refuses_none c bytes file text (applied c asked) ends)
replies_alike words bytes file (answered a) (rejected text) applied p (d, asked, ends) reply is =
    absurd (applied_refuses_none d bytes file text (applied d asked) ends)
replies_alike words bytes file misused (rejected text) applied p (d, asked, ends) reply is =
    absurd (applied_refuses_none d bytes file text (applied d asked) ends)
replies_alike words bytes file (answered a) misused applied p none reply is = absurd (none p.0 p.1)
replies_alike words bytes file misused (answered b) applied none q reply is = absurd (none q.0 q.1)
replies_alike words bytes file misused misused applied p q reply is = is

-- if a reply is correct for one ending that `Ends` allows for `words`, `bytes` and `file`, the reply is correct for
-- every such ending
pub only_reply : (words : List (List ℕ)) (bytes : List ℕ) (file : Result (List ℕ) Error) (r : Result Reply Error)
    → MatchResult r (IsReplyTo words bytes file) (λ e. e ≡ OutOfMemory)
    → IfOk r (λ reply. (due : Ending) → AreApplied words bytes → Ends words bytes file due → IsReply due reply)
only_reply words bytes file (Ok reply) (ending, ends, is) =
    λ due applied right. replies_alike words bytes file ending due applied ends right reply is
only_reply words bytes file (Err e) h = tt

-- From a reader's bytes to the output.

some_bytes : (known : Option (List ℕ)) → (bytes : List ℕ) × IfSome known (λ xs. bytes ≡ xs)
some_bytes None = ([], tt)
some_bytes (Some xs) = (xs, refl)

pub out_of_memory : (words : List (List ℕ)) (e : Error) → e ≡ OutOfMemory → IsCutShort words e
out_of_memory words e is = no_memory e _ is

-- if `words` ask for a command, and the error `e` says that a read failed or that memory ran out, a run may have the
-- error `e` instead of a reply (`IsCutShort`)
pub reading_failed : (words : List (List ℕ)) (command : Command) (e : Error) → AskFor words command
    → UnlessReadFails e ⊥ → IsCutShort words e
reading_failed words command e asked h = UnlessMemory-from e (command, asked, h)

-- the reply to words that are no command is the same for all bytes
any_bytes : (words : List (List ℕ)) (a b : List ℕ) (file : Result (List ℕ) Error) (reply : Reply) → AskForNone words
    → IsReplyTo words a file reply → IsReplyTo words b file reply
any_bytes words a b file reply none (answered answer, ends, is) = absurd (none ends.0 ends.1)
any_bytes words a b file reply none (rejected text, ends, is) = absurd (none ends.0 ends.1)
any_bytes words a b file reply none (misused, ends, is) = (misused, ends, is)

reply_for_bytes : (words : List (List ℕ)) (a b : List ℕ) (r : Result Reply Error)
    → ((file : Result (List ℕ) Error) (reply : Reply) → IsReplyTo words a file reply → IsReplyTo words b file reply)
    → WithFile (λ file. MatchResult r (IsReplyTo words a file) (λ e. e ≡ OutOfMemory))
    → WithFile (λ file. MatchResult r (IsReplyTo words b file) (IsCutShort words))
reply_for_bytes words a b (Ok reply) f (file, may, h) = (file, may, f file reply h)
reply_for_bytes words a b (Err e) f (file, may, h) = (file, may, out_of_memory words e h)

pub reply_of_reader : (words : List (List ℕ)) (input : Option (List ℕ)) (bytes : List ℕ) (r : Result Reply Error)
    → AskForNone words ⊎ IfSome input (λ known. bytes ≡ known)
    → WithFile (λ file. MatchResult r (IsReplyTo words bytes file) (λ e. e ≡ OutOfMemory))
    → Reading input (λ bytes. WithFile (λ file. MatchResult r (IsReplyTo words bytes file) (IsCutShort words)))
reply_of_reader words input bytes r (inl none) h =
    let has = some_bytes input in (
      has.0,
      has.1,
      reply_for_bytes words bytes has.0 r (λ file reply is. any_bytes words bytes has.0 file reply none is) h,
    )
reply_of_reader words input bytes r (inr of_input) h =
    (bytes, of_input, reply_for_bytes words bytes bytes r (λ file reply is. is) h)

pub cut_short : (words : List (List ℕ)) (input : Option (List ℕ)) (e : Error) (r : Result Reply Error)
    → r ≡ Err e → IsCutShort words e
    → Reading input (λ bytes. WithFile (λ file. MatchResult r (IsReplyTo words bytes file) (IsCutShort words)))
cut_short words input e r is h = let has = some_bytes input in (has.0, has.1, (Ok [], tt, rw is h))

may_end : (words : List (List ℕ)) (bytes : List ℕ) (file : Result (List ℕ) Error) (ending : Ending)
    → Ends words bytes file ending → MayEnd words bytes file ending
may_end words bytes file (answered (Ok text)) h = h
may_end words bytes file (answered (Err e)) h = inl h
may_end words bytes file (rejected text) h = h
may_end words bytes file misused h = h

reported_is_cut_short : (words : List (List ℕ)) (e reported : Error) → (reported ≡ e) ⊎ (reported ≡ OutOfMemory)
    → IsCutShort words e → IsCutShort words reported
reported_is_cut_short words e reported (inl same) h = subst (λ x. IsCutShort words x) (sym same) h
reported_is_cut_short words e reported (inr out) h = out_of_memory words reported out

-- if `made` is as `reply_to_input` specifies and writing succeeds, the output and the status are as `Runs` specifies.
-- `made` may be a reply or an error
pub runs : (words : List (List ℕ)) (input : Option (List ℕ)) (made : Result Reply Error)
    (old new : Option (List ℕ)) (result : Result ℕ Error)
    → Reading input (λ bytes. WithFile (λ file. MatchResult made (IsReplyTo words bytes file) (IsCutShort words)))
    → MatchResult result (λ status. IsPrinted made status old new) IsWriteError
    → IfOk result (λ status. Runs words input status old new)
runs words input (Ok reply) old new (Ok status) (bytes, of_input, (file, may, (ending, ends, is))) output =
    (bytes, of_input, (file, may, (ending, may_end words bytes file ending ends, output.0 ∙ is.1, (reply.output.items, is.0, output.1))))
runs words input (Err e) old new (Ok status) (bytes, of_input, (file, may, short)) (is, (reported, same, printed)) =
    (bytes, of_input, (file, may, (answered (Err reported), inr (reported_is_cut_short words e reported same short), is, printed)))
runs words input made old new (Err e) h output = tt
