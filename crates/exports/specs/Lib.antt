pub mod ExportText
