use Rattle.std.proofs.Common.{drop, flat_map, map}
use Rattle.std.specs.List.{AllByRecursion as Every}
use Rattle.rule_files.specs.Arrays.{array_view}
use Rattle.rule_files.specs.Digest.{ArrayFits, kept_bytes}
use Rattle.rule_files.proofs.Hashed.{IsAhead}
use Rattle.rule_files.proofs.digest.put_arrays.Given as goal

abbrev pub invariant-arrays : goal.invariant-arrays
invariant-arrays l =
    let left = map (λ a. a.1) (map array_view (drop l.named-index l.arrays)) in
    let all = map (λ a. a.1) (map array_view l.arrays) in
    record {
      bytes : IsAhead l.initial.hasher l.hasher (flat_map kept_bytes left) (flat_map kept_bytes all);
      fits : Every ArrayFits left → Every ArrayFits all;
    }
