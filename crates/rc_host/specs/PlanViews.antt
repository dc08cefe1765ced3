-- The plans that the values of the program represent.
use Rattle.std.specs.Prelude.{map}
use Rattle.rc_text.specs.Texts.{text_bytes}
use Rattle.rc_host.specs.declared.launches.planned.Plan.{Plan as HostPlan}
use Rattle.rc_host.specs.Plan.{Plan}

-- the texts of a plan, and its descriptors
abbrev pub plan_view : HostPlan → Plan
plan_view plan = record {
  program = plan.program.now;
  args = map text_bytes plan.args.now;
  env = map text_bytes plan.env.now;
  slots = plan.slots;
}
