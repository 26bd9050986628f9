use Rattle.std.proofs.Common.{[], ap, flat_map, map, string_bytes, ◌∙◌}
use Rattle.sha2.specs.Sha256.{sha256}
use Rattle.rule_files.specs.Statements.{acts_of}
use Rattle.rule_files.specs.Arrays.{array_view}
use Rattle.rule_files.specs.Digest.{block_bytes, digest_words, kept_bytes, list_bytes, meaning_bytes, number_bytes, own_name, table_bytes, text_bytes, words_of_digest}
use Rattle.rule_files.proofs.Hashed.{joined6}
use Rattle.rule_files.proofs.digest.digest_of.Goals as goal

pub returns-clause-value : goal.returns-clause-value
unfolding digest_words meaning_bytes
returns-clause-value c =
    let held = c.put_block-2.ensures.bytes _ (c.put_block.ensures.bytes _ (c.put_tables.ensures.bytes _ (c.put_number.ensures _
    (c.put_arrays.ensures.bytes _ (c.put_words.ensures.bytes [] c.new-hasher.ensures))))) in
    let bytes = joined6 [] (list_bytes text_bytes (map own_name (map string_bytes c.args.words.now))) (flat_map kept_bytes (map (λ a. a.1) (map array_view c.args.arrays.now)))
    (number_bytes c.args.seed) (list_bytes table_bytes c.args.tables.now) (block_bytes (acts_of c.args.start.now)) (block_bytes (acts_of c.args.handle.now)) in
    c.four_words.ensures ∙ ap words_of_digest (c.finalize.ensures _ held ∙ ap sha256 bytes)
