use Rattle.std.proofs.Common.{◌≡◌, length, List, take, ℕ}
use Rattle.eventkey.specs.Reading.{number_at}
use Rattle.process.proofs.ReportBytes.{IsGoingWith}
use Rattle.process.proofs.encoding.put_numbers.Given as goal

abbrev pub invariant-loop-place : goal.invariant-loop-place
invariant-loop-place l = record {
  read : IsGoingWith (λ (xs : List ℕ). take l.place l.words ≡ xs) (number_at 8) l.count l.place l.bytes l.rest;
  many : length l.words ≡ 16;
}
