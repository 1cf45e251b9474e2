-- The header has another partner.
use Rattle.std.proofs.Common.{Some, ap, ◌∙◌}
use Rattle.mm_model.specs.Views.ByBase.{with_entry}
use Rattle.mm_audit.specs.declared.header.Header.{Header}
use Rattle.mm_audit.specs.Objects.{object_with}
use Rattle.mm_audit.proofs.objects.Objects.pair.Goals as goal

pub rewrite-requires : goal.rewrite-requires
rewrite-requires c =
    let object = c.requires.object in
    let same = c.header-header.ensures object.object object.begins in
    record {
      alike = record {
        object = object.object;
        begins = object.begins;
        extent = ap (λ (h : Header). h.extent) same;
        slots = ap (λ (h : Header). h.slots) same;
      };
    }

pub returns-clause-paired : goal.returns-clause-paired
returns-clause-paired c object there =
    c.rewrite.ensures.rewritten object there
    ∙ ap
    (λ (h : Header). with_entry c.args.base (Some (object_with object.words (record h { partner = c.args.partner })))
    c.args.self.now)
    (c.header-header.ensures object there)
