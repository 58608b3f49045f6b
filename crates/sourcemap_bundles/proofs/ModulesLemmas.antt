-- The list of modules that `modules_from` returns: its first item, the items that follow, the cases in which the list
-- is empty, and a bound on its length.
use Rattle.std.proofs.Common.{◌≡◌, ℕ, zero, suc, ◌+◌, ◌-◌, ◌<◌, ◌≤◌, List, [], ◌∷◌, length, ◌⊎◌, inl, inr, Option, None, Some, Result, Ok, Err, refl, ap, ◌∙◌, arith}
use Rattle.std.proofs.lemmas.Bool.{cases_lt}
use Rattle.sourcemap_errors.specs.declared.errors.Error.{Error}
use Rattle.sourcemap_bundles.specs.Modules.{BundleValue, FilesValue, ModuleValue, bundle_module, file_module, files, modules_from, with_item}

-- let `id` be below `end`. If `id` has a module or an error, the items from `id` on are this module or error, followed
-- by the items from `id + 1` on. Otherwise the items from `id` on are the items from `id + 1` on
pub modules_next : (bundle : BundleValue) (id end : ℕ) → id < end
    → modules_from bundle (end - id) id
    ≡ with_item (bundle_module bundle id) (modules_from bundle (end - (id + 1)) (id + 1))
modules_next bundle id end below = let left : end - id ≡ suc (end - (id + 1)) = omega arith in rw left refl

pub modules_end : (bundle : BundleValue) (id end : ℕ) → end ≤ id → modules_from bundle (end - id) id ≡ []
modules_end bundle id end past = let left : end - id ≡ zero = omega arith in rw left refl

-- numbers without a module give no item
modules_skip : (bundle : BundleValue) (gap id n end : ℕ) → id + gap ≡ n → n ≤ end
    → ((k : ℕ) → id ≤ k → k < n → bundle_module bundle k ≡ Ok None)
    → modules_from bundle (end - id) id ≡ modules_from bundle (end - n) n
modules_skip bundle zero id n end at fits none =
    let same : id ≡ n = omega (arith, at) in ap (λ k. modules_from bundle (end - k) k) same
modules_skip bundle (suc gap) id n end at fits none =
    let below : id < n = omega (arith, at) in
    let inside : id < end = omega (arith, at, fits) in
    let next : (id + 1) + gap ≡ n = omega (arith, at) in
    modules_next bundle id end inside
    ∙ ap (λ item. with_item item (modules_from bundle (end - (id + 1)) (id + 1))) (none id (omega arith) below)
    ∙ modules_skip bundle gap (id + 1) n end next fits (λ k from past. none k (omega (arith, from)) past)

-- let `n` be the first number from `id` on that has a file. If `n` is below `end`, the file of `n` is the first of the
-- modules from `id` on, and the others are the modules from `n + 1` on
pub modules_file : (folder : FilesValue) (id n end : ℕ) (found : ModuleValue) → id ≤ n → n < end
    → file_module folder n ≡ Some found → ((k : ℕ) → id ≤ k → k < n → file_module folder k ≡ None)
    → modules_from (files folder) (end - id) id ≡ Ok found ∷ modules_from (files folder) (end - (n + 1)) (n + 1)
modules_file folder id n end found from below is none =
    let gap : id + (n - id) ≡ n = omega (arith, from) in
    let fits : n ≤ end = omega (arith, below) in
    modules_skip (files folder) (n - id) id n end gap fits (λ k at past. ap Ok (none k at past))
    ∙ modules_next (files folder) n end below
    ∙ ap (λ item. with_item (Ok item) (modules_from (files folder) (end - (n + 1)) (n + 1))) is

-- if no number from `id` on and below `end` has a file, the list of modules is empty
pub modules_no_file : (folder : FilesValue) (id end : ℕ)
    → ((k : ℕ) → id ≤ k → k < end → file_module folder k ≡ None) → modules_from (files folder) (end - id) id ≡ []
modules_no_file folder id end none = by (cases_lt id end)
  where
    by : (id < end) ⊎ (end ≤ id) → modules_from (files folder) (end - id) id ≡ []
    by (inr past) = modules_end (files folder) id end past
    by (inl below) =
        let gap : id + (end - id) ≡ end = omega (arith, below) in
        modules_skip (files folder) (end - id) id end end gap (omega arith) (λ k at past. ap Ok (none k at past))
        ∙ modules_end (files folder) end end (omega arith)

with_item-length : (item : Result (Option ModuleValue) Error) (items : List (Result ModuleValue Error))
    → length (with_item item items) ≤ length items + 1
with_item-length (Ok None) items = omega arith
with_item-length (Ok (Some found)) items = omega arith
with_item-length (Err e) items = omega arith

-- at most one item for each number
pub modules_length : (bundle : BundleValue) (left id : ℕ) → length (modules_from bundle left id) ≤ left
modules_length bundle zero id = omega arith
modules_length bundle (suc left) id =
    omega (
      arith,
      with_item-length (bundle_module bundle id) (modules_from bundle left (id + 1)),
      modules_length bundle left (id + 1),
    )
