use Rattle.std.proofs.Common.{◌∙◌, ap, Some, rules}
use Rattle.serde_json.specs.View.{members_view}
use Rattle.sourcemap_records.specs.Field.{with}
use Rattle.sourcemap_records.specs.Keys.{fields_from, file_keys_view, content_keys_view}
use Rattle.sourcemap_records.proofs.KeysLemmas.{from_file_keys, from_content, from_extras}
use Rattle.sourcemap_records.proofs.from_json.read_groups.Goals as goal

pub returns-in_err-file_keys : goal.returns-in_err-file_keys
returns-in_err-file_keys c =
    rw (from_file_keys (members_view c.args.members.entries) (members_view c.read_debug_id.new.members.entries)
    c.in_ok-debug_id.debug_id
    c.in_ok-debug_id.ensures.value c.in_ok-debug_id.ensures.others)
    (search rules)

pub returns-in_err-content_keys : goal.returns-in_err-content_keys
returns-in_err-content_keys c =
    rw (from_content (members_view c.args.members.entries) (members_view c.read_debug_id.new.members.entries)
    (members_view c.read_file_keys.new.members.entries)
    c.in_ok-debug_id.debug_id (file_keys_view c.in_ok-file_keys.file_keys)
    c.in_ok-debug_id.ensures.value c.in_ok-debug_id.ensures.others c.in_ok-file_keys.ensures.value
    c.in_ok-file_keys.ensures.others)
    (search rules)

pub returns-in_err-extra_keys : goal.returns-in_err-extra_keys
returns-in_err-extra_keys c =
    rw (from_extras (members_view c.args.members.entries) (members_view c.read_debug_id.new.members.entries)
    (members_view c.read_file_keys.new.members.entries) (members_view c.read_content_keys.new.members.entries)
    c.in_ok-debug_id.debug_id (file_keys_view c.in_ok-file_keys.file_keys)
    (content_keys_view c.in_ok-content_keys.content_keys)
    c.in_ok-debug_id.ensures.value c.in_ok-debug_id.ensures.others c.in_ok-file_keys.ensures.value
    c.in_ok-file_keys.ensures.others c.in_ok-content_keys.ensures.value c.in_ok-content_keys.ensures.others)
    (search rules)

pub returns : goal.returns
returns c =
    from_extras (members_view c.args.members.entries) (members_view c.read_debug_id.new.members.entries)
    (members_view c.read_file_keys.new.members.entries) (members_view c.read_content_keys.new.members.entries)
    c.in_ok-debug_id.debug_id (file_keys_view c.in_ok-file_keys.file_keys)
    (content_keys_view c.in_ok-content_keys.content_keys)
    c.in_ok-debug_id.ensures.value c.in_ok-debug_id.ensures.others c.in_ok-file_keys.ensures.value
    c.in_ok-file_keys.ensures.others c.in_ok-content_keys.ensures.value c.in_ok-content_keys.ensures.others
    ∙ ap (λ o. with o (λ x. Some (fields_from (file_keys_view c.in_ok-file_keys.file_keys)
    (content_keys_view c.in_ok-content_keys.content_keys) x c.in_ok-debug_id.debug_id))) c.in_ok-extra_keys.ensures
