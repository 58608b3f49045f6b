-- What the file means follows from the answer.
use Rattle.std.proofs.Common.{◌∙◌, ap, refl}
use Rattle.sourcemap_hermes.specs.Map.{hermes_value}
use Rattle.sourcemap_index.specs.Family.{index_value, map_tree}
use Rattle.sourcemap_index.proofs.FamilyLemmas.{hermes_tree, index_tree-of, regular_tree}
use Rattle.sourcemap_index_model.specs.MapTree.{hermes, index_tree, leaf, regular}
use Rattle.sourcemap_cache.specs.Compile.{bytes_in, regular_parts}
use Rattle.sourcemap_cache.proofs.CompileLemmas.{answer_accepted, answer_like, answer_means, answer_of, answer_sound}
use Rattle.sourcemap_cache.proofs.CompileLemmas.{leaf_like}
use Rattle.sourcemap_cache.proofs.compiling.compile.Goals as goal

pub returns-in-Regular-clause-meaning : goal.returns-in-Regular-clause-meaning
returns-in-Regular-clause-meaning c =
    let m = c.in-Regular.map in
    let same = ap map_tree c.in-Regular.is ∙ regular_tree m in
    let answer =
    answer_of c.args.contents (leaf (regular m)) (regular_parts c.args.contents m) (bytes_in c.file_with.result) refl
    c.file_with.ensures in
    answer_means c.args.contents (leaf (regular m)) (map_tree c.args.map.now) c.file_with.result same answer

pub returns-in-Regular-clause-orderly : goal.returns-in-Regular-clause-orderly
returns-in-Regular-clause-orderly c =
    let m = c.in-Regular.map in
    let same = ap map_tree c.in-Regular.is ∙ regular_tree m in
    let answer =
    answer_of c.args.contents (leaf (regular m)) (regular_parts c.args.contents m) (bytes_in c.file_with.result) refl
    c.file_with.ensures in
    answer_like c.args.contents (leaf (regular m)) (map_tree c.args.map.now) c.file_with.result same answer m refl
    (λ orderly. leaf_like (regular m))

pub returns-in-Regular-clause-accepted : goal.returns-in-Regular-clause-accepted
returns-in-Regular-clause-accepted c =
    let m = c.in-Regular.map in
    let same = ap map_tree c.in-Regular.is ∙ regular_tree m in
    let answer =
    answer_of c.args.contents (leaf (regular m)) (regular_parts c.args.contents m) (bytes_in c.file_with.result) refl
    c.file_with.ensures in
    answer_accepted c.args.contents (leaf (regular m)) (map_tree c.args.map.now) c.file_with.result same answer

pub returns-in-Regular-clause-sound : goal.returns-in-Regular-clause-sound
returns-in-Regular-clause-sound c =
    let m = c.in-Regular.map in
    let same = ap map_tree c.in-Regular.is ∙ regular_tree m in
    let answer =
    answer_of c.args.contents (leaf (regular m)) (regular_parts c.args.contents m) (bytes_in c.file_with.result) refl
    c.file_with.ensures in
    answer_sound c.args.contents (leaf (regular m)) (map_tree c.args.map.now) c.file_with.result same answer

pub returns-in-Hermes-clause-meaning : goal.returns-in-Hermes-clause-meaning
returns-in-Hermes-clause-meaning c =
    let h = hermes_value c.in-Hermes.map in
    let same = ap map_tree c.in-Hermes.is ∙ hermes_tree c.in-Hermes.map in
    let answer = c.compile_hermes.ensures in
    answer_means c.args.contents (leaf (hermes h)) (map_tree c.args.map.now) c.compile_hermes.result same answer

pub returns-in-Hermes-clause-orderly : goal.returns-in-Hermes-clause-orderly
returns-in-Hermes-clause-orderly c =
    let h = hermes_value c.in-Hermes.map in
    let same = ap map_tree c.in-Hermes.is ∙ hermes_tree c.in-Hermes.map in
    let answer = c.compile_hermes.ensures in
    answer_like c.args.contents (leaf (hermes h)) (map_tree c.args.map.now) c.compile_hermes.result same answer h.map refl
    (λ orderly. leaf_like (hermes h))

pub returns-in-Hermes-clause-accepted : goal.returns-in-Hermes-clause-accepted
returns-in-Hermes-clause-accepted c =
    let h = hermes_value c.in-Hermes.map in
    let same = ap map_tree c.in-Hermes.is ∙ hermes_tree c.in-Hermes.map in
    let answer = c.compile_hermes.ensures in
    answer_accepted c.args.contents (leaf (hermes h)) (map_tree c.args.map.now) c.compile_hermes.result same answer

pub returns-in-Hermes-clause-sound : goal.returns-in-Hermes-clause-sound
returns-in-Hermes-clause-sound c =
    let h = hermes_value c.in-Hermes.map in
    let same = ap map_tree c.in-Hermes.is ∙ hermes_tree c.in-Hermes.map in
    let answer = c.compile_hermes.ensures in
    answer_sound c.args.contents (leaf (hermes h)) (map_tree c.args.map.now) c.compile_hermes.result same answer

pub returns-in_ok-flat-in-Index-clause-meaning : goal.returns-in_ok-flat-in-Index-clause-meaning
returns-in_ok-flat-in-Index-clause-meaning c =
    let t = index_tree (index_value c.in-Index.map) in
    let flat = c.in_ok-flat-in-Index.flat in
    let same = ap map_tree c.in-Index.is ∙ index_tree-of c.in-Index.map in
    let flattened = c.in_ok-flat-in-Index.ensures.answer in
    let answer =
    answer_of c.args.contents t (regular_parts c.args.contents flat) (bytes_in c.file_with-in-Index.result)
    (flat, flattened, refl) c.file_with-in-Index.ensures in
    answer_means c.args.contents t (map_tree c.args.map.now) c.file_with-in-Index.result same answer

pub returns-in_ok-flat-in-Index-clause-orderly : goal.returns-in_ok-flat-in-Index-clause-orderly
returns-in_ok-flat-in-Index-clause-orderly c =
    let t = index_tree (index_value c.in-Index.map) in
    let flat = c.in_ok-flat-in-Index.flat in
    let same = ap map_tree c.in-Index.is ∙ index_tree-of c.in-Index.map in
    let flattened = c.in_ok-flat-in-Index.ensures.answer in
    let answer =
    answer_of c.args.contents t (regular_parts c.args.contents flat) (bytes_in c.file_with-in-Index.result)
    (flat, flattened, refl) c.file_with-in-Index.ensures in
    answer_like c.args.contents t (map_tree c.args.map.now) c.file_with-in-Index.result same answer flat flattened
    c.in_ok-flat-in-Index.ensures.meaning

pub returns-in_ok-flat-in-Index-clause-accepted : goal.returns-in_ok-flat-in-Index-clause-accepted
returns-in_ok-flat-in-Index-clause-accepted c =
    let t = index_tree (index_value c.in-Index.map) in
    let flat = c.in_ok-flat-in-Index.flat in
    let same = ap map_tree c.in-Index.is ∙ index_tree-of c.in-Index.map in
    let flattened = c.in_ok-flat-in-Index.ensures.answer in
    let answer =
    answer_of c.args.contents t (regular_parts c.args.contents flat) (bytes_in c.file_with-in-Index.result)
    (flat, flattened, refl) c.file_with-in-Index.ensures in
    answer_accepted c.args.contents t (map_tree c.args.map.now) c.file_with-in-Index.result same answer

pub returns-in_ok-flat-in-Index-clause-sound : goal.returns-in_ok-flat-in-Index-clause-sound
returns-in_ok-flat-in-Index-clause-sound c =
    let t = index_tree (index_value c.in-Index.map) in
    let flat = c.in_ok-flat-in-Index.flat in
    let same = ap map_tree c.in-Index.is ∙ index_tree-of c.in-Index.map in
    let flattened = c.in_ok-flat-in-Index.ensures.answer in
    let answer =
    answer_of c.args.contents t (regular_parts c.args.contents flat) (bytes_in c.file_with-in-Index.result)
    (flat, flattened, refl) c.file_with-in-Index.ensures in
    answer_sound c.args.contents t (map_tree c.args.map.now) c.file_with-in-Index.result same answer
