-- The reports of the processes of a node, process by process.
use Rattle.std.proofs.Common.{◌≡◌, ℕ, zero, suc, ◌+◌, ◌<◌, ◌++◌, ◌∙◌, List, [], ◌∷◌, map, flat_map, length, get_or, refl, ap, arith, ◌==◌, eq-eqb}
use Rattle.std.proofs.lemmas.Bool.{cond-true, cond-false, ne_eqb}
use Rattle.std.proofs.lemmas.List.{append-nil, map-append}
use Rattle.std.proofs.lemmas.List.Concat.{flat_map-append}
use Rattle.std.specs.List.{AllByRecursion as Every}
use Rattle.eventkey.proofs.Bags.{copies-append}
use Rattle.eventkey.specs.Bag.{copies}
use Rattle.eventkey.specs.Message.{Message}
use Rattle.process.proofs.Laws.{report_is_balanced}
use Rattle.process.specs.Process.{Process, fossils_of, release, sent_by}
use Rattle.process.specs.declared.Done.{Done}
use Rattle.gvt.proofs.Gathered.{reported_sends-append, reported_by-apart}
use Rattle.gvt.specs.System.{reported_messages, reported_sends, reported_by}

-- 1. The reports of one process

pub reported_by-all : (lp : ℕ) (ds : List Done) → Every (λ (d : Done). d.message.to ≡ lp) ds → reported_by lp ds ≡ ds
reported_by-all lp [] h = refl
reported_by-all lp (d ∷ ds) h = cond-true (d.message.to == lp) (d ∷ reported_by lp ds) (reported_by lp ds) (eq-eqb d.message.to lp h.0) ∙ ap (λ (es : List Done). d ∷ es) (reported_by-all lp ds h.1)

pub reported_by-none : (lp : ℕ) (ds : List Done) → Every (λ (d : Done). d.message.to ≡ lp → ⊥) ds → reported_by lp ds ≡ []
reported_by-none lp [] h = refl
reported_by-none lp (d ∷ ds) h = cond-false (d.message.to == lp) (d ∷ reported_by lp ds) (reported_by lp ds) (ne_eqb d.message.to lp h.0) ∙ reported_by-none lp ds h.1

module _ {X : Type 0} (lp : ℕ) (F : X → List Done) (d : X) where
  pub reported_by-flat_none : (xs : List X) → ((i : ℕ) → i < length xs → reported_by lp (F (get_or xs i d)) ≡ []) → reported_by lp (flat_map F xs) ≡ []
  reported_by-flat_none [] h = refl
  reported_by-flat_none (x ∷ xs) h =
      reported_by-apart lp (F x) (flat_map F xs)
      ∙ ap (λ (ds : List Done). ds ++ reported_by lp (flat_map F xs)) (h zero (omega arith))
      ∙ reported_by-flat_none xs (λ i l. h (suc i) (omega arith))

  pub reported_by-flat_one : (xs : List X) (k : ℕ) → k < length xs → ((i : ℕ) → i < length xs → (i ≡ k → ⊥) → reported_by lp (F (get_or xs i d)) ≡ []) → reported_by lp (flat_map F xs) ≡ reported_by lp (F (get_or xs k d))
  reported_by-flat_one [] k l h = absurd (omega arith)
  reported_by-flat_one (x ∷ xs) zero l h =
      reported_by-apart lp (F x) (flat_map F xs)
      ∙ ap (λ (ds : List Done). reported_by lp (F x) ++ ds) (reported_by-flat_none xs (λ i j. h (suc i) (omega arith) (λ e. omega arith)))
      ∙ append-nil (reported_by lp (F x))
  reported_by-flat_one (x ∷ xs) (suc k) l h =
      reported_by-apart lp (F x) (flat_map F xs)
      ∙ ap (λ (ds : List Done). ds ++ reported_by lp (flat_map F xs)) (h zero (omega arith) (λ e. omega arith))
      ∙ reported_by-flat_one xs k (omega arith) (λ i j apart. h (suc i) (omega arith) (λ e. apart (omega arith)))

pub copies-reported_messages : (x : Message) (ds es : List Done) → copies x (reported_messages (ds ++ es)) ≡ copies x (reported_messages ds) + copies x (reported_messages es)
copies-reported_messages x ds es = ap (copies x) (map-append (λ (d : Done). d.message) ds es) ∙ copies-append x (reported_messages ds) (reported_messages es)

pub copies-reported_sends : (x : Message) (ds es : List Done) → copies x (reported_sends (ds ++ es)) ≡ copies x (reported_sends ds) + copies x (reported_sends es)
copies-reported_sends x ds es = ap (copies x) (reported_sends-append ds es) ∙ copies-append x (reported_sends ds) (reported_sends es)

-- 2. All processes of a node

-- each message that they sent is in a report, or the process still has its handling
pub sent-released : (x : Message) (floor : ℕ) (qs : List Process) →
    copies x (reported_sends (flat_map (λ (q : Process). fossils_of floor q) qs)) + copies x (flat_map sent_by (map (λ (q : Process). release floor q) qs)) ≡ copies x (flat_map sent_by qs)
sent-released x floor [] = refl
sent-released x floor (q ∷ qs) =
    let here = (report_is_balanced x floor q).1 in
    omega (
      arith,
      sent-released x floor qs,
      copies-reported_sends x (fossils_of floor q) (flat_map (λ (q : Process). fossils_of floor q) qs),
      copies-append x (sent_by (release floor q)) (flat_map sent_by (map (λ (q : Process). release floor q) qs)),
      copies-append x (sent_by q) (flat_map sent_by qs),
    )

-- 3. All processes of all nodes

sent_nodes : (nodes : List (List Process)) → flat_map sent_by (flat_map (λ (qs : List Process). qs) nodes) ≡ flat_map (λ (qs : List Process). flat_map sent_by qs) nodes
sent_nodes [] = refl
sent_nodes (qs ∷ nodes) = flat_map-append sent_by qs (flat_map (λ (ps : List Process). ps) nodes) ∙ ap (λ (ys : List Message). flat_map sent_by qs ++ ys) (sent_nodes nodes)

pub copies-sent_nodes : (x : Message) (nodes : List (List Process)) → copies x (flat_map sent_by (flat_map (λ (qs : List Process). qs) nodes)) ≡ copies x (flat_map (λ (qs : List Process). flat_map sent_by qs) nodes)
copies-sent_nodes x nodes = ap (copies x) (sent_nodes nodes)
