use Rattle.std.proofs.Common.{Some, None, Ok, Err}
use Rattle.utopist_syntax.specs.FileTree.{file_tree}
use Rattle.utopist_parser.proofs.Shaped.{has_shape}
use Rattle.utopist_parser.proofs.Sliced.{all_slices}
use Rattle.utopist_parser.proofs.Whole.{tree_of, answer_of, found_is}
use Rattle.utopist_parser.proofs.parser.parse.Goals as goal

pub returns-in-Ok-clause-tree : goal.returns-in-Ok-clause-tree
returns-in-Ok-clause-tree c = tree_of c.args.text.now _ c.new-reader.ensures c.in-Ok.file _ c.in-Ok.ensures.reads

pub returns-in-Ok-clause-shape : goal.returns-in-Ok-clause-shape
returns-in-Ok-clause-shape c = has_shape c.args.text.now (file_tree c.in-Ok.file) (tree_of c.args.text.now _ c.new-reader.ensures c.in-Ok.file _ c.in-Ok.ensures.reads).0

pub returns-in-Ok-clause-slices : goal.returns-in-Ok-clause-slices
returns-in-Ok-clause-slices c = all_slices c.args.text.now c.utf8.text (file_tree c.in-Ok.file) (tree_of c.args.text.now _ c.new-reader.ensures c.in-Ok.file _ c.in-Ok.ensures.reads).0

pub unreachable-requires : goal.unreachable-requires
unreachable-requires c =
    answer_of c.args.text.now c.new-reader.result c.new-reader.ensures c.read_file.new.reader c.in-Err-Wrong.ensures.text c.in-Err-Wrong.why (rw c.in-Err-Wrong.field-0-is at c.in-Err-Wrong.ensures.reads) c.place.result None c.place.ensures c.in-None.is

pub returns-in-Some-Ok-clause-tree : goal.returns-in-Some-Ok-clause-tree
returns-in-Some-Ok-clause-tree c =
    rw c.fault_by.ensures (answer_of c.args.text.now c.new-reader.result c.new-reader.ensures c.read_file.new.reader c.in-Err-Wrong.ensures.text c.in-Err-Wrong.why (rw c.in-Err-Wrong.field-0-is at c.in-Err-Wrong.ensures.reads) c.place.result (Some (Ok c.in-Some-Ok.place)) c.place.ensures
    (found_is c.place.result c.in-Some-Ok.field-0 (Ok c.in-Some-Ok.place) c.in-Some-Ok.is c.in-Some-Ok.field-0-is))

pub returns-in-Some-Err-clause-tree : goal.returns-in-Some-Err-clause-tree
returns-in-Some-Err-clause-tree c =
    answer_of c.args.text.now c.new-reader.result c.new-reader.ensures c.read_file.new.reader c.in-Err-Wrong.ensures.text c.in-Err-Wrong.why (rw c.in-Err-Wrong.field-0-is at c.in-Err-Wrong.ensures.reads) c.place.result (Some (Err c.in-Some-Err.fault)) c.place.ensures
    (found_is c.place.result c.in-Some-Err.field-0 (Err c.in-Some-Err.fault) c.in-Some-Err.is c.in-Some-Err.field-0-is)
