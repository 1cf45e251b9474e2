-- The names of commands, as the model has them.
use Rattle.std.specs.Prelude.{ℕ}
use Rattle.mm_model.specs.Logs.Trace as trace
use Rattle.mm_model.specs.declared.command.Command.{Command}
use Rattle.mm_model.specs.declared.command.Command.TheVariants as commands
use Rattle.mm_trace.specs.declared.form.Form.{Form}
use Rattle.mm_trace.specs.declared.form.Form.TheVariants as forms
use Rattle.mm_trace.specs.declared.form.OfNone.{OfNone}
use Rattle.mm_trace.specs.declared.form.OfNone.TheVariants as none
use Rattle.mm_trace.specs.declared.form.OfOne.{OfOne}
use Rattle.mm_trace.specs.declared.form.OfOne.TheVariants as one
use Rattle.mm_trace.specs.declared.form.OfTwo.{OfTwo}
use Rattle.mm_trace.specs.declared.form.OfTwo.TheVariants as two
use Rattle.mm_trace.specs.declared.form.OfThree.{OfThree}
use Rattle.mm_trace.specs.declared.form.OfThree.TheVariants as three

-- the command without numbers that has this name
abbrev pub with_none : OfNone → Command
with_none none.Reap = commands.Reap
with_none none.Collect = commands.Collect
with_none none.Begin = commands.Begin
with_none none.Finish = commands.Finish
with_none none.Stat = commands.Stat

-- the command of one number that has this name
abbrev pub with_one : OfOne → ℕ → Command
with_one one.Push = commands.Push
with_one one.Dup = commands.Dup
with_one one.Pop = commands.Pop
with_one one.Weak = commands.Weak
with_one one.Look = commands.Look
with_one one.Fixed = commands.Fixed
with_one one.DropArea = commands.DropArea
with_one one.Step = commands.Step
with_one one.Map = commands.Map

-- the command of two numbers that has this name
abbrev pub with_two : OfTwo → ℕ → ℕ → Command
with_two two.Inner = commands.Inner
with_two two.Get = commands.Get
with_two two.Root = commands.Root
with_two two.AreaGet = commands.AreaGet

-- the command of three numbers that has this name
abbrev pub with_three : OfThree → ℕ → ℕ → ℕ → Command
with_three three.Put = commands.Put
with_three three.AreaPut = commands.AreaPut

-- what stands behind the first word
abbrev pub model_form : Form → trace.Form
model_form forms.Shaped = trace.Shaped
model_form (forms.None name) = trace.Bare (with_none name)
model_form (forms.One name) = trace.OneNumber (with_one name)
model_form (forms.Two name) = trace.TwoNumbers (with_two name)
model_form (forms.Three name) = trace.ThreeNumbers (with_three name)
