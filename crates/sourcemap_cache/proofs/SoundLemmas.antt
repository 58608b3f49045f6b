-- The file of sound parts is sound.
use Rattle.std.proofs.Common.{◌≡◌, refl, sym, subst, ℕ, ◌+◌, ◌-◌, ◌<◌, ◌≤◌, nat_lt, if◌then◌else◌, true, List}
use Rattle.std.proofs.Common.{Some, None, Option, IfSome, Result, Ok, slice_get, arith, inl, inr}
use Rattle.std.specs.Str.{IsUtf8}
use Rattle.std.proofs.lemmas.Bool.{cases_lt}
use Rattle.std.proofs.lemmas.Bool.Decides.{nat_tests}
use Rattle.sourcemap_tokens.specs.Items.{item_at}
use Rattle.sourcemap_tokens.proofs.AllLemmas.{All-at}
use Rattle.sourcemap_compiled.specs.Layout.{content_count, file_text, name_count, scope_count, source_count, text_count}
use Rattle.sourcemap_compiled.specs.Soundness.{IsReadable, IsSound}
use Rattle.sourcemap_compiled.specs.Texts.{text_at}
use Rattle.sourcemap_compiled.specs.declared.errors.CompiledMapError.{CompiledMapError}
use Rattle.sourcemap_compiled_write.specs.File.{AreWritable, file_bytes}
use Rattle.sourcemap_compiled_write.specs.Parts.{Parts}
use Rattle.sourcemap_compiled_write.proofs.ReadBack.{contents_back, file_back, name_back, order_back, scope_text_back}
use Rattle.sourcemap_compiled_write.proofs.ReadBack.{source_back}
use Rattle.sourcemap_cache.specs.Compile.{AreSound}
use Rattle.sourcemap_cache.specs.Texts.{AreTexts}

-- an item of a list of texts is a text
pub text_item : (texts : List (Option (List ℕ))) (id : ℕ) → AreTexts texts → IfSome (item_at texts id) IsUtf8
text_item texts id all = by_case (slice_get texts id) refl
  where
    by_case : (o : Option (Option (List ℕ))) → slice_get texts id ≡ o → IfSome (item_at texts id) IsUtf8
    by_case None e = rw e tt
    by_case (Some text) e = rw e (All-at (λ t. IfSome t IsUtf8) texts id text e all)

pub readable : (text : Option (List ℕ)) → IfSome text IsUtf8 → IsReadable (Ok text)
readable None is = tt
readable (Some text) is = is

-- a text that is there, among texts that are numbered from 0
there : (id count : ℕ) (text : Result (Option (List ℕ)) CompiledMapError) (item : Option (List ℕ)) → id < count
    → (if nat_lt id count then text else Ok None) ≡ Ok item → IfSome item IsUtf8 → IsReadable text
there id count text item within is utf8 =
    let test : nat_lt id count ≡ true = grind (arith, nat_tests) in
    subst IsReadable (sym (rw test at is)) (readable item utf8)

module _ (p : Parts) (w : AreWritable p) (sound : AreSound p) where
  abbrev file : List ℕ
  file = file_bytes p

  source_read : (id : ℕ) → id < source_count file → IsReadable (text_at file id)
  source_read id l =
      there id (source_count file) (text_at file id) (item_at p.sources id) l (source_back p w id)
      (text_item p.sources id sound.sources)

  name_read : (id : ℕ) → id < name_count file → IsReadable (text_at file (source_count file + id))
  name_read id l =
      there id (name_count file) (text_at file (source_count file + id)) (item_at p.names id) l (name_back p w id)
      (text_item p.names id sound.names)

  scope_read : (id : ℕ) → id < scope_count file
      → IsReadable (text_at file (source_count file + name_count file + id))
  scope_read id l =
      there id (scope_count file) (text_at file (source_count file + name_count file + id)) (item_at p.scope_names id) l
      (scope_text_back p w id) (text_item p.scope_names id sound.scope_names)

  contents_read : (id : ℕ) → id < content_count file → IsReadable (text_at file (file_text file + 1 + id))
  contents_read id l =
      there id (content_count file) (text_at file (file_text file + 1 + id)) (item_at p.contents id) l
      (contents_back p w id) (text_item p.contents id sound.contents)

  -- the file, and the contents after it
  last_read : (n : ℕ) → file_text file ≤ n → n < text_count file → IsReadable (text_at file n)
  last_read n from within = elim (cases_lt (file_text file) n) [
    | inl after ↦
        let at : file_text file + 1 + (n - (file_text file + 1)) ≡ n = omega arith in
        subst (λ m. IsReadable (text_at file m)) at (contents_read (n - (file_text file + 1)) (omega arith))
    | inr here ↦
        let at : file_text file ≡ n = omega arith in
        subst (λ m. IsReadable (text_at file m)) at
        (subst IsReadable (sym (file_back p w)) (readable p.file sound.file))
  ]

  scope_or_last : (n : ℕ) → source_count file + name_count file ≤ n → n < text_count file
      → IsReadable (text_at file n)
  scope_or_last n from within = elim (cases_lt n (file_text file)) [
    | inl before ↦
        let at : source_count file + name_count file + (n - (source_count file + name_count file)) ≡ n = omega arith in
        subst (λ m. IsReadable (text_at file m)) at (scope_read (n - (source_count file + name_count file)) (omega arith))
    | inr after ↦ last_read n after within
  ]

  all_read : (n : ℕ) → n < text_count file → IsReadable (text_at file n)
  all_read n within = elim (cases_lt n (source_count file)) [
    | inl source ↦ source_read n source
    | inr past ↦ elim (cases_lt n (source_count file + name_count file)) [
      | inl name ↦
          let at : source_count file + (n - source_count file) ≡ n = omega arith in
          subst (λ m. IsReadable (text_at file m)) at (name_read (n - source_count file) (omega arith))
      | inr after ↦ scope_or_last n after within
    ]
  ]

  pub sound_file : IsSound (file_bytes p)
  sound_file = record { order = order_back p w sound.tokens; texts = all_read }
