-- Steps of a reader that drops a junk header.
use Rattle.std.proofs.Common.{◌≡◌, ◌≢◌, ℕ, suc, ◌+◌, ◌-◌, ◌<◌, ◌≤◌, List, [], ◌∷◌, ◌++◌, length, drop, get_or, Bool}
use Rattle.std.proofs.Common.{true, false, nat_eq, refl, add-one, add-zero, append_assoc, sym, length-drop, take, ap}
use Rattle.std.proofs.Common.{◌∙◌, option_map, option_and_then, subst, Option, Some, None, arith}
use Rattle.std.proofs.Math.Seq.{drop-cons, take-append_seam}
use Rattle.std.proofs.lemmas.List.{drop-take, length-take-le}
use Rattle.std.proofs.lemmas.Bool.Decides.{nat_tests}
use Rattle.sourcemap_headers.specs.Header.{after_junk}
use Rattle.sourcemap_headers.specs.HeaderReader.{remaining_in, remaining_of, Outputs}
use Rattle.sourcemap_headers.specs.declared.header_reader.StripHeaderReader.{StripHeaderReader}
use Rattle.sourcemap_headers.specs.declared.header_reader.HeaderState.{HeaderState}
use Rattle.sourcemap_headers.specs.declared.header_reader.HeaderState.TheVariants.{InHeader}
use Rattle.std.specs.Bool.{if◌then◌else◌}
use Rattle.std.specs.Io.KnownBytes.{Consumes}

drop_either : (test : Bool) (bytes : Option (List ℕ))
    → option_map (drop 1) (if test then None else bytes) ≡ (if test then None else option_map (drop 1) bytes)
drop_either true bytes = refl
drop_either false bytes = refl

no_newline : (b : ℕ) → b ≢ 10 → nat_eq b 10 ≡ false
no_newline b h = grind (arith, nat_tests)

-- a junk byte that is not a newline is dropped
pub junk_byte : (b : ℕ) (rest : List ℕ) → b ≢ 10
    → remaining_in (InHeader false) (b ∷ rest) ≡ remaining_in (InHeader (nat_eq b 13)) rest
junk_byte b rest h = rw (no_newline b h) (drop_either _ (after_junk rest))

pub junk_byte_at : (chunk later : List ℕ) (i : ℕ) → i < length chunk → get_or chunk i 0 ≢ 10
    → remaining_in (InHeader false) (drop i chunk ++ later)
    ≡ remaining_in (InHeader (nat_eq (get_or chunk i 0) 13)) (drop (i + 1) chunk ++ later)
junk_byte_at chunk later i within h =
    rw (drop-cons chunk i 0 within, add-one) (junk_byte (get_or chunk i 0) (drop (suc i) chunk ++ later) h)

-- the bytes that a reader returned are a prefix of the bytes that it had
pub consumed : (old new : Option (List ℕ)) (bytes : List ℕ) → Consumes old new bytes → (xs : List ℕ) → old ≡ Some xs
    → (ys : List ℕ) × (new ≡ Some ys) × (xs ≡ bytes ++ ys)
consumed None new bytes h xs e = cc
consumed (Some zs) None bytes h xs e = absurd h
consumed (Some zs) (Some ys) bytes h xs e = (ys, refl, cc)

pub none_before : (bytes : Option (List ℕ)) → bytes ≡ option_map (λ later. [] ++ later) bytes
none_before None = refl
none_before (Some bytes) = refl

-- if all bytes of `chunk` are junk, a read of `chunk` outputs nothing, and the reader is then within the header
pub outputs_junk : (state : HeaderState) (after_return : Bool) (old new : Option (List ℕ)) (chunk : List ℕ)
    → Consumes old new chunk
    → ((later : List ℕ) → remaining_in state (chunk ++ later) ≡ remaining_in (InHeader after_return) later)
    → (xs : List ℕ) → old ≡ Some xs
    → (ys : List ℕ) × (new ≡ Some ys)
    × (remaining_in state xs ≡ option_map (λ later. [] ++ later) (remaining_in (InHeader after_return) ys))
outputs_junk state after_return old new chunk consumes junk xs known =
    let k = consumed old new chunk consumes xs known in
    (k.0, k.1, ap (remaining_in state) k.2 ∙ junk k.0 ∙ none_before _)

-- let the inner reader have the bytes `xs` and return `chunk`. Let the junk end in `chunk`, or let `chunk` be the first
-- chunk and begin without a header. Then the outer reader returns `output`, which is `chunk` without its `junk_len`
-- bytes of junk. After `output`, the outer reader returns the bytes that the inner reader still has (`ys`)
pub outputs_end : (state : HeaderState) (old new : Option (List ℕ)) (chunk output : List ℕ) (junk_len : ℕ)
    → Consumes old new chunk
    → ((later : List ℕ) → remaining_in state (chunk ++ later) ≡ Some (drop junk_len chunk ++ later))
    → drop junk_len chunk ≡ output
    → (xs : List ℕ) → old ≡ Some xs
    → (ys : List ℕ) × (new ≡ Some ys) × (remaining_in state xs ≡ Some (output ++ ys))
outputs_end state old new chunk output junk_len consumes ends rest xs known =
    let k = consumed old new chunk consumes xs known in
    (k.0, k.1, ap (remaining_in state) k.2 ∙ ends k.0 ∙ ap (λ bytes. Some (bytes ++ k.0)) rest)

drop_all : (count : ℕ) (buf : List ℕ) → drop count (take count buf) ≡ []
drop_all count buf = let h : drop count (take (count + 0) buf) ≡ [] = drop-take count 0 buf in rw add-zero at h

pub nothing_after : (count junk_len : ℕ) (buf : List ℕ) → junk_len ≡ count → drop junk_len (take count buf) ≡ []
nothing_after count junk_len buf same = rw same (drop_all count buf)

-- rotating a chunk by its junk moves the other bytes to the front
pub rotated : (count junk_len : ℕ) (buf front later : List ℕ) → count ≤ length buf → junk_len ≤ count
    → front ≡ drop junk_len (take count buf) ++ take junk_len (take count buf)
    → drop junk_len (take count buf) ≡ take (count - junk_len) (front ++ later)
rotated count junk_len buf front later within most e =
    let chunk : List ℕ = take count buf in
    let size : length (drop junk_len chunk) ≡ count - junk_len =
    omega (arith, length-drop junk_len chunk, length-take-le count buf within) in
    rw (e, append_assoc, ← size) (sym (take-append_seam (drop junk_len chunk) (take junk_len chunk ++ later)))

known_consumed : (was middle is : Option (List ℕ)) (bytes : List ℕ) → was ≡ option_map (λ later. [] ++ later) middle
    → middle ≡ option_map (λ later. bytes ++ later) is → Consumes was is bytes
known_consumed was middle None bytes e f = let none : was ≡ None = rw f at e in
    subst (λ known. Consumes known None bytes) (sym none) tt
known_consumed was middle (Some rest) bytes e f =
    let some : was ≡ Some (bytes ++ rest) = rw f at e in
    subst (λ known. Consumes known (Some rest) bytes) (sym some) refl

remaining_consumed : {R : Type 0} (remaining : R → Option (List ℕ)) (old middle new : StripHeaderReader R)
    (bytes : List ℕ) (known : Option (List ℕ))
    → remaining old.reader ≡ known → Outputs remaining old middle [] → Outputs remaining middle new bytes
    → Consumes (option_and_then (remaining_in old.state) known) (remaining_of remaining new) bytes
remaining_consumed remaining old middle new bytes None e first next = tt
remaining_consumed remaining old middle new bytes (Some xs) e first next =
    let f = first xs e in
    let t = next f.0 f.1 in
    rw t.1 (known_consumed (remaining_in old.state xs) (remaining_in middle.state f.0)
    (remaining_in new.state t.0) bytes f.2 t.2)

-- if one step outputs nothing and the next step outputs `bytes`, the two steps together consume `bytes`
pub outputs_consumed : {R : Type 0} (remaining : R → Option (List ℕ)) (old middle new : StripHeaderReader R)
    (bytes : List ℕ)
    → Outputs remaining old middle [] → Outputs remaining middle new bytes
    → Consumes (remaining_of remaining old) (remaining_of remaining new) bytes
outputs_consumed remaining old middle new bytes first next =
    remaining_consumed remaining old middle new bytes (remaining old.reader) refl first next
