-- What a document, a value in it and the rest of a list are seen as.
use Rattle.std.specs.Prelude.{ℕ, List}
use Rattle.serde_json.specs.Data.{Data}
use Rattle.scene_json.specs.Lists.{elements}
use Rattle.scene_json.specs.NodeData.{fields_from, first, items_from, seen}
use Rattle.scene_json.specs.declared.document.Document.{Document}
use Rattle.scene_json.specs.declared.members.Members.{Members}
use Rattle.scene_json.specs.declared.part.Part.{Part}
use Rattle.scene_json.specs.declared.parts.Parts.{Parts}

-- the data of a value
abbrev pub view : Part → Data
view part = first (seen part.at part.nodes.now)

-- the data of the elements that are left
abbrev pub views : Parts → List Data
views parts = elements (items_from parts.left (seen parts.at parts.nodes.now))

-- the data of a document
abbrev pub whole : Document → Data
whole document = first (seen 0 document.nodes.items)

-- the members that are left, each a key and its value
abbrev pub fields : Members → List (List ℕ × Data)
fields members = fields_from members.left (seen members.at members.nodes.now)
