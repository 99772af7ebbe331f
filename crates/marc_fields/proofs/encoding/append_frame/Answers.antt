use Rattle.std.proofs.Common.{◌++◌, ◌∷◌, [], append_assoc, length, map, sym, ap, ◌∙◌}
use Rattle.std.proofs.lemmas.List.{length-map}
use Rattle.std.specs.List.{flat_map}
use Rattle.marc_fields.specs.Spelling.{stored, entry_bytes, entries_from, leader_bytes, frame_size, record_of, spelling}
use Rattle.marc_fields.proofs.AppendingLaws.{Appends-frame, Appends-refused, front_kept, length-entries_from}
use Rattle.marc_fields.proofs.encoding.append_frame.Goals as goal

pub returns-clause-text : goal.returns-clause-text
unfolding spelling
returns-clause-text g c =
    let fields = map g.F.HasField.field c.args.fields.now in
    let codes = c.args.codes in
    let count = sym (length-entries_from 0 fields ∙ length-map c.args.fields.now g.F.HasField.field) in
    let leader = ap (λ n. leader_bytes c.args.size n codes) count ∙ ap (λ s. leader_bytes s (length (entries_from 0 fields)) codes) c.requires.size in
    Appends-frame c.extend_from_slice-2.result c.args.into.now.items c.append_leader.new.into.items c.append_entries.new.into.items
    c.extend_from_slice.new.self.items c.append_data.new.into.items c.extend_from_slice-2.new.self.items
    (leader_bytes (frame_size (record_of codes fields)) (length (entries_from 0 fields)) codes) (flat_map entry_bytes (entries_from 0 fields)) (flat_map stored fields)
    (c.in_ok-append_leader.ensures.text ∙ ap (λ text. c.args.into.now.items ++ text) leader)
    c.in_ok-append_entries.ensures
    c.in_ok-extend_from_slice.ensures.items
    c.in_ok-append_data.ensures
    c.extend_from_slice-2.ensures.items

pub returns-in_err-append_entries-clause-text : goal.returns-in_err-append_entries-clause-text
returns-in_err-append_entries-clause-text g c =
    Appends-refused c.from_residual-in_err-append_entries.result c.args.into.now.items c.append_entries.new.into.items
    (spelling (record_of c.args.codes (map g.F.HasField.field c.args.fields.now)))
    c.from_residual-in_err-append_entries.ensures.0
    (front_kept c.args.into.now.items c.append_leader.new.into.items c.append_entries.new.into.items
    (leader_bytes c.args.size (length c.args.fields.now) c.args.codes) c.in_ok-append_leader.ensures.text c.in_err-append_entries.ensures)

pub returns-in_err-append_data-clause-text : goal.returns-in_err-append_data-clause-text
returns-in_err-append_data-clause-text g c =
    let fields = map g.F.HasField.field c.args.fields.now in
    let leader = leader_bytes c.args.size (length c.args.fields.now) c.args.codes in
    let directory = flat_map entry_bytes (entries_from 0 fields) in
    Appends-refused c.from_residual-in_err-append_data.result c.args.into.now.items c.append_data.new.into.items (spelling (record_of c.args.codes fields))
    c.from_residual-in_err-append_data.ensures.0
    (front_kept c.args.into.now.items c.extend_from_slice.new.self.items c.append_data.new.into.items
    (leader ++ (directory ++ 0x1E ∷ []))
    (c.in_ok-extend_from_slice.ensures.items ∙ (ap (λ text. text ++ 0x1E ∷ []) (c.in_ok-append_entries.ensures ∙ ap (λ text. text ++ directory) c.in_ok-append_leader.ensures.text) ∙ simp append_assoc))
    c.in_err-append_data.ensures)
