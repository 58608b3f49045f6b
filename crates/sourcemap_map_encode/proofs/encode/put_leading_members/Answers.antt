use Rattle.std.proofs.Common.{◌≡◌, ℕ, List, Bool, false, ◌||◌, is_some, Option, Some, None, option_map, option_copied}
use Rattle.std.proofs.Common.{string_bytes, Bor, refl, sym, ap, ap₂, subst, ◌∙◌}
use Rattle.sourcemap_map_parts.specs.MapMetadata.{MetadataValue}
use Rattle.sourcemap_map_encode.specs.Buffered.{Grows}
use Rattle.sourcemap_map_encode.specs.Members.{part, parts_text, debug_id_entry, file_entry, ids_entry, leading_entries}
use Rattle.sourcemap_map_encode.proofs.BufferedLemmas.{Grows-three, OnOk-then}
use Rattle.sourcemap_map_encode.proofs.encode.put_leading_members.Goals as goal

some_map : {X Y : Type 0} (f : X → Y) (o : Option X) → is_some (option_map f o) ≡ is_some o
some_map f None = refl
some_map f (Some x) = refl

some_copied : (o : Option (Bor (List ℕ))) → is_some o ≡ is_some (option_copied o)
some_copied None = refl
some_copied (Some x) = refl

leading_members_grown : (m : MetadataValue) (l1 l2 : Bool) (id file : Option (List ℕ)) (ids : List ℕ)
    (h i j k : Option (List ℕ)) (a b c d : List ℕ)
    → id ≡ m.debug_id → file ≡ m.file → ids ≡ m.ignored → l1 ≡ is_some m.debug_id → l2 ≡ l1 || is_some m.file
    → Grows h a i b (part false (debug_id_entry id)) → Grows i b j c (part l1 (file_entry file))
    → Grows j c k d (part l2 (ids_entry ids))
    → Grows h a k d (parts_text false (leading_entries m))
leading_members_grown m l1 l2 id file ids h i j k a b c d of_id of_file of_ids e f x y z =
    let D : Bool = is_some (debug_id_entry m.debug_id).1 in
    let F : Bool = is_some (file_entry m.file).1 in
    let of_first : l1 ≡ D = e ∙ sym (some_map _ m.debug_id) in
    let of_second : l2 ≡ D || F = f ∙ ap₂ (λ (p q : Bool). p || q) of_first (sym (some_map _ m.file)) in
    Grows-three h i j k a b c d (part false (debug_id_entry m.debug_id)) (part D (file_entry m.file))
    (part (D || F) (ids_entry m.ignored))
    (subst (λ (r : Option (List ℕ)). Grows h a i b (part false (debug_id_entry r))) of_id x)
    (subst (λ (l : Bool). Grows i b j c (part l (file_entry m.file))) of_first
    (subst (λ (r : Option (List ℕ)). Grows i b j c (part l1 (file_entry r))) of_file y))
    (subst (λ (l : Bool). Grows j c k d (part l (ids_entry m.ignored))) of_second
    (subst (λ (r : List ℕ). Grows j c k d (part l2 (ids_entry r))) of_ids z))

pub returns-clause-text : goal.returns-clause-text
returns-clause-text g c =
    let held = g.W.Write.contents in
    let m = c.args.metadata.now in
    OnOk-then c.put_ids.result _ _
    (λ ids. leading_members_grown m c.in_ok-later.later c.in_ok-later-2.later c.debug_id.result
    (option_copied c.file.result) c.as_slice.result.now
    (held c.args.writer.now) (held c.put_debug_id.new.writer) (held c.put_text_if.new.writer)
    (held c.put_ids.new.writer)
    (string_bytes c.args.buffer.now) (string_bytes c.put_debug_id.new.buffer) (string_bytes c.put_text_if.new.buffer)
    (string_bytes c.put_ids.new.buffer)
    c.debug_id.ensures c.file.ensures (c.as_slice.ensures.value ∙ c.in_ok-ids.ensures.items)
    (c.in_ok-later.ensures.later ∙ ap is_some c.debug_id.ensures)
    (c.in_ok-later-2.ensures.later
    ∙ ap (λ (b : Bool). c.in_ok-later.later || b) (some_copied c.file.result ∙ ap is_some c.file.ensures))
    c.in_ok-later.ensures.text c.in_ok-later-2.ensures.text ids)
    c.put_ids.ensures.text
