-- The plans of a source and a sink in memory.
use Rattle.mm_io.specs.Plan.{Plan}
use Rattle.mm_io.specs.declared.mem_sink.MemSink.{MemSink}
use Rattle.mm_io.specs.declared.mem_source.MemSource.{MemSource}

abbrev pub source_plan : MemSource → Plan
source_plan source =
    record { piece = source.tape.piece; fails = source.plan.fails.items; calls = source.plan.calls }

abbrev pub sink_plan : MemSink → Plan
sink_plan sink = record { piece = sink.piece; fails = sink.plan.fails.items; calls = sink.plan.calls }
