use Rattle.std.proofs.Common.{List, inr, refl, subst, sym, ℕ, ◌∙◌}
use Rattle.std.proofs.lemmas.List.{length-map}
use Rattle.std.specs.Prelude.{IfErr, replicate}
use Rattle.coordinator.proofs.PortFaults.{local-faults}
use Rattle.coordinator.specs.Opening.{MayRun}
use Rattle.coordinator.specs.PortFaults.{IsFaultInProgram, IsFaultOfPorts}
use Rattle.disk.specs.Laws.{looks_none}
use Rattle.recovery.proofs.OldRecords.{keeps_none}
use Rattle.runs.proofs.Faults.{faults_so}
use Rattle.runs.proofs.Kept.{only_read}
use Rattle.runs.proofs.Ports.{all_fresh, all_faithful, so_many}
use Rattle.wire.specs.Local.{state_by, state_of}
use Rattle.wire.specs.Port.{PortState}
use Rattle.runs.specs.Driver.{RunHasCause}
use Rattle.wire.specs.declared.local.Held.TheVariants.{Fresh}
use Rattle.runs.proofs.local.run_local.Goals as goal

pub run_over-requires : goal.run_over-requires
run_over-requires g c =
    let ports = c.in-Ok.ensures.ports in
    let unloaded = state_of (g.M.Model.meaning c.args.model.now) Fresh in
    let many = sym (length-map c.in-Ok.ports.items _) ∙ so_many c.args.plan.nodes unloaded _ ports in
    record {
      each = many;
      possible = record {
        run = subst (λ (n : ℕ). MayRun n c.args.end) (sym many) c.requires.possible;
        fresh = all_fresh c.args.plan.nodes unloaded _ ports refl;
      };
    }

pub returns-clause-run : goal.returns-clause-run
returns-clause-run g c =
    let meaning = g.M.Model.meaning in
    let m = meaning c.args.model.now in
    let faithful = all_faithful c.args.plan.nodes (state_of m Fresh) _ c.in-Ok.ensures.ports m refl refl in
    let run = c.run_over.ensures.run in
    record {
      over = run.over;
      cause = subst (λ (ports : List PortState). IfErr c.run_over.result.outcome (RunHasCause meaning (state_by meaning) g.D.SectorDisk.state c.args.model.now c.args.end c.args.plan ports c.args.disk c.run_over.result.disk)) c.in-Ok.ensures.ports run.cause;
      simulation = run.simulation (inr faithful);
      faults = λ genuine. faults_so {Wide = IsFaultOfPorts (state_by meaning)} {Narrow = IsFaultInProgram} m c.args.end c.args.plan (g.D.SectorDisk.state c.args.disk).reads (local-faults meaning) c.run_over.result.outcome (run.faults faithful genuine);
    }

-- no port was made: an allocation failed
pub returns-in-Err-clause-run : goal.returns-in-Err-clause-run
returns-in-Err-clause-run g c =
    let meaning = g.M.Model.meaning in
    let m = meaning c.args.model.now in
    let disk = g.D.SectorDisk.state c.args.disk in
    let none = c.in-Err.ensures.resources in
    record {
      over = tt;
      cause = subst (RunHasCause meaning (state_by meaning) g.D.SectorDisk.state c.args.model.now c.args.end c.args.plan (replicate c.args.plan.nodes (state_of m Fresh)) c.args.disk c.args.disk) (sym none) tt;
      simulation = only_read m c.args.end disk disk c.in-Err.fault (looks_none disk) (λ time events is. let no = sym none ∙ is in cc);
      faults = λ genuine. record {
        port = λ own is. absurd (let no = sym none ∙ is in cc);
        reports = λ is. let no = sym none ∙ is in cc;
        rounds = λ is. absurd (let no = sym none ∙ is in cc);
      };
    }

pub returns-in-Err-clause-old_records : goal.returns-in-Err-clause-old_records
returns-in-Err-clause-old_records g c = keeps_none (g.D.SectorDisk.state c.args.disk)
